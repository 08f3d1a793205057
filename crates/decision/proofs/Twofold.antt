-- The third demand of any two calls of Decide, each on its own work table and output, whatever these hold: what is seen of each call is its reply.
-- Assumes nothing.
use mathlib.Core.Bool.{Bool, false, true}
use mathlib.Core.List.{List, [], ◌++◌, ◌∷◌}
use Rattle.std.specs.Prelude.{Option, None, Some}
use mathlib.Core.Path.{ap, refl, ◌∙◌, ◌≡◌}
use Prim.Native.Nat.{ℕ}
use lib.Dec.{leb}
use lib.ListN.{drop, length}
use lib.Seq.{take_at}
use Rattle.answers.specs.Line.{end_line, each_line, refusal_form, refusal_line, refusal_number, verdict_form, verdict_line}
use Rattle.answers.specs.Reply.{line_size}
use Rattle.answers.specs.Verdict.{Verdict}
use Rattle.json_text.specs.Bytes.{Bytes}
use Rattle.json_text.specs.Refusal.{Result, line_too_long, ok, refused, ◌>>=◌}
use Rattle.members.specs.Sheet.{read_sheet}
use Rattle.decision.specs.Called.{Called, Replied}
use Rattle.answers.specs.Decide.{decide_call}
use Rattle.answers.specs.Demand.{Repeats}
use Rattle.answers.specs.Entry.{Reply, call, decide, enough, fitted, output_after, reply}
use Rattle.line.specs.Replies.{number_of, size_of}
use Rattle.decision.specs.Seen.{line_in, seen}
use Rattle.line.specs.declared.reply.Reply.{Reply as Case}
use Rattle.answers.proofs.Repeat.{demand_seen}

-- ---- a line ends
data Ended : Option Bytes → Type 0 where
  silent : Ended None
  spoken : (f : Bytes) → Ended (Some (end_line f))

abbrev fit : ℕ → Bytes → Bool → Reply
fit n f b = elim b [ true ↦ record { number = n; line = Some (end_line f) } | false ↦ record { number = refusal_number line_too_long; line = None } ]

fit_ended : (n : ℕ) (f : Bytes) (b : Bool) → Ended (fit n f b).line
fit_ended n f true = spoken f
fit_ended n f false = silent

fitted_ended : (size n : ℕ) (x : Option Bytes) → Ended (fitted size n (each_line x)).line
fitted_ended size n None = silent
fitted_ended size n (Some f) = fit_ended n f (leb (length (end_line f)) size)

reply_ended : (size : ℕ) (x : Result Verdict) → Ended (reply size x).line
unfolding reply verdict_line refusal_line
reply_ended size (ok v) = fitted_ended size 0 (Some (verdict_form v))
reply_ended size (refused r) = fitted_ended size (refusal_number r) (refusal_form r)

decide_ended : (s : Bytes) (work size : ℕ) → Ended (decide s work size).line
unfolding decide call
decide_ended s work size = reply_ended size (enough work >>= (λ _. read_sheet s >>= (λ sheet. decide_call sheet)))

-- ---- what is seen
line_shown : (f out : Bytes) → line_in (length (end_line f)) (end_line f ++ drop (length (end_line f)) out) ≡ Some (end_line f)
unfolding line_in
line_shown [] out = refl
line_shown (c ∷ f) out = ap Some (take_at (c ∷ end_line f) (drop (length (c ∷ end_line f)) out) (length (c ∷ end_line f)) refl)

line_seen :
    (n size : ℕ) (x : Option Bytes) (o o' : Bytes) → Ended x → size ≡ line_size (record { number = n; line = x }) →
    o' ≡ output_after (record { number = n; line = x }) o → line_in size o' ≡ x
unfolding line_in
line_seen n size None o o' silent p q = ap (λ (i : ℕ). line_in i o') p
line_seen n size (Some l) o o' (spoken f) p q = ap (λ (i : ℕ). line_in i o') p ∙ ap (line_in (length (end_line f))) q ∙ line_shown f o

pub decide_seen :
    (s : Bytes) (work : ℕ) (o : Bytes) {n size : ℕ} {o' : Bytes} →
    n ≡ (decide s work (length o)).number →
    size ≡ line_size (decide s work (length o)) →
    o' ≡ output_after (decide s work (length o)) o →
    seen n size o' ≡ decide s work (length o)
decide_seen s work o {n} {size} {o'} p q r =
    let reply = decide s work (length o) in
    ap {B = Reply} (λ (m : ℕ). seen m size o') p ∙
    ap {B = Reply} (λ (l : Option Bytes). record { number = reply.number; line = l }) (line_seen reply.number size reply.line o o' (decide_ended s work (length o)) q r)

-- ---- two calls, by what is seen of each, and by all that each promises
seen_of : {answer : Reply} {w w' : List ℕ} {o o' : Bytes} {r : Case} → Called answer w w' o o' r → Replied answer w w' o o' r
seen_of c = record { is_number = c.is_number; is_size = c.is_size; output = c.output; work = c.work }

module _ (old new : Bytes) {w w' v v' : List ℕ} {o o' p p' : Bytes} {a b : Case} where
  pub calls_repeat :
      Replied (decide old (length w) (length o)) w w' o o' a → Replied (decide new (length v) (length p)) v v' p p' b →
      Repeats old new (length w) (length v) (seen (number_of a) (size_of a) o') (seen (number_of b) (size_of b) p')
  calls_repeat x y =
      demand_seen
      old
      new
      (length w)
      (length v)
      (length o)
      (length p)
      (decide_seen old (length w) o x.is_number x.is_size x.output)
      (decide_seen new (length v) p y.is_number y.is_size y.output)

  pub sent_repeat :
      Called (decide old (length w) (length o)) w w' o o' a → Called (decide new (length v) (length p)) v v' p p' b →
      Repeats old new (length w) (length v) (seen (number_of a) (size_of a) o') (seen (number_of b) (size_of b) p')
  sent_repeat x y = calls_repeat (seen_of x) (seen_of y)
