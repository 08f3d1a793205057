-- What the reader of an object's members makes of a text, from what the reader of values makes of it.
-- Assumes nothing.
use mathlib.Core.Bool.{Bool, false, false≢true, true, true≢false}
use mathlib.Core.List.{List, append_assoc, append-nil, [], ◌++◌, ◌∷◌}
use mathlib.Core.Logic.{inl, inr, ◌≢◌}
use mathlib.Core.Path.{ap, refl, subst, sym, ◌∙◌, ◌≡◌}
use Prim.Native.Nat.{suc, ℕ, ◌+◌, ◌≤◌}
use native.Mathlib.Omega.{arith}
use lib.Dec.{eqb, ltb}
use lib.ListN.{length, length-append}
use Rattle.json_text.proofs.Ascii.{start_ascii}
use Rattle.json_text.proofs.Complete.{chars_complete, spells_length, string_length, structural_length, ws_length}
use Rattle.json_text.proofs.Counting.{
  Over,
  behind_of,
  both,
  chars_counted,
  chars_over,
  clear,
  counted_at,
  digit_mark,
  spells_counted,
  string_counted,
  structural_counted,
  ws_clear,
  ws_counted,
}
use Rattle.json_text.proofs.Laws.{bind_ok, bind_refused, eqb_true, ok_injective, ok_not_refused}
use Rattle.json_text.proofs.Outcome.{
  Outcome,
  Quiet,
  all_read,
  bind,
  cut,
  dead,
  done,
  early,
  ext,
  fault,
  moved,
  quiet_at,
  past,
  quiet_refused,
  resume,
  shown_map,
  step,
  stopped,
  took,
  weaken,
}
use Rattle.json_text.proofs.Quoted.{CharsLocal, LongChars, chars_local, chars_opens, chars_of}
use Rattle.json_text.proofs.Separated.{EntryRead, EntryThen, Lead, leading, parsed_of}
use Rattle.json_text.proofs.Sound.{
  ParserSound,
  StartView,
  array_start,
  bind_with,
  chars_sound,
  expect_sound,
  false_start,
  leb_le,
  leb_lt,
  new_name_sound,
  no_start,
  null_start,
  number_start,
  object_start,
  one_node_sound,
  skip_ws,
  start_view,
  structural_at,
  text_start,
  true_start,
  ws_at,
}
use Rattle.json_text.proofs.Sparing.{Sparing, fresh_name, longest, number_sparing}
use Rattle.json_text.proofs.Tokens.{Completes, IsWord, Takes, behind, finish, read_of, regroup, word_local}
use Rattle.json_text.specs.Bytes.{Bytes, is_one_of}
use Rattle.json_text.specs.Fault
use Rattle.json_text.specs.Grammar
use Rattle.json_text.specs.Grammar.{Chars, Spells, Structural, Ws, no_space, structural}
use Rattle.json_text.specs.Json.{Value, number}
use Rattle.json_text.specs.Limits
use Rattle.json_text.specs.Limits.{nodes}
use Rattle.json_text.specs.Reader
use Rattle.json_text.specs.Reader.{Parsed, Parser, more, next}
use Rattle.json_text.specs.Refusal.{Refusal, Result, not_json, ok, refused, repeated_name, too_many_nodes, ◌>>=◌}
use Rattle.json_text.specs.Scan.{Read, expect, skip, word}
use Rattle.json_text.specs.Tally
use Rattle.json_text.specs.Tally.{ends_in, further, nodes_begun, nothing, tallied, tally}

-- a value and, completed sparingly, so many brackets in it and no repeated name
abbrev pub Valued : ℕ → Bool → Value → Bytes → Bytes → Type 0
Valued left i v s r = Spells v s r × (i ≡ true → Sparing left v)

-- with its count, of which nothing is said
abbrev pub ValueThen : ℕ → Value × ℕ → Bytes → Bytes → Type 0
ValueThen left b s r = EntryThen (Valued left true) b s r

-- so many nodes have begun before it, and so many brackets are open
abbrev pub ValueLocal : ℕ → Parser Value → Type 0
ValueLocal left val =
    (n d : ℕ) (s : Bytes) → n ≤ Limits.max_nodes → d + left ≡
    Limits.max_depth → Outcome (clear n d) parsed_of (val n) (λ i. Completes (Valued left i)) (Takes (ValueThen left)) s

-- any beginning of a value can be completed, the empty one by 0
zero_spelled : (r : Bytes) → Spells (number (48 ∷ [])) (48 ∷ r) r
zero_spelled r =
    Spells.is_number
    (record {
      after_minus = 48 ∷ r;
      after_int = r;
      after_frac = r;
      has_minus = Grammar.no_minus;
      has_int = Grammar.Int.zero refl;
      has_frac = Grammar.no_frac;
      has_exp = Grammar.no_exp;
    }) refl

pub zero_valued : (left : ℕ) (i : Bool) (r : Bytes) → Valued left i (number (48 ∷ [])) (48 ∷ r) r
zero_valued left i r = (zero_spelled r, λ e. number_sparing left (48 ∷ []))

pub value_opens : (left : ℕ) (i : Bool) → Completes (Valued left i) []
value_opens left i = record { end = 48 ∷ []; what = number (48 ∷ []); spelled = zero_valued left i; plain = refl }

-- a byte that begins a value
abbrev is_start : Reader.Start → Bool
is_start Reader.start_null = true
is_start Reader.start_true = true
is_start Reader.start_false = true
is_start Reader.start_text = true
is_start Reader.start_number = true
is_start Reader.start_array = true
is_start Reader.start_object = true
is_start Reader.start_nothing = false

pub starts : (k : Reader.Start) → is_start k ≡ true → k ≢ Reader.start_nothing
starts k e h = true≢false (sym e ∙ ap is_start h)

start_begins : (c n d : ℕ) → Reader.start c ≢ Reader.start_nothing → nodes_begun (further (clear n d) c) ≡ n + 1
start_begins c n d h = go (start_view c) h
  where
    at : (b : ℕ) → c ≡ b → nodes_begun (further (clear n d) b) ≡ n + 1 → nodes_begun (further (clear n d) c) ≡ n + 1
    at b e k = ap (λ (x : ℕ). nodes_begun (further (clear n d) x)) e ∙ k

    go : {k : Reader.Start} → StartView c k → k ≢ Reader.start_nothing → nodes_begun (further (clear n d) c) ≡ n + 1
    go (null_start e) k = at 110 e refl
    go (true_start e) k = at 116 e refl
    go (false_start e) k = at 102 e refl
    go (text_start e) k = at 34 e refl
    go (number_start (inl e)) k = at 45 e refl
    go (number_start (inr e)) k = ap (λ x. nodes_begun (Tally.begin n d x)) (digit_mark c e)
    go (array_start e) k = at 91 e refl
    go (object_start e) k = at 123 e refl
    go no_start k = absurd (k refl)

-- a node more, at the byte that begins it
pub node_local :
    {A B : Type 0} {mk : B → Bytes → A} {P : Bytes → Result A} {G : Bool → Bytes → Type 0} {T : B → Bytes → Type 0} (c n d : ℕ) (s : Bytes)
    (Q : ℕ → Bytes → Result A) → n ≤ Limits.max_nodes → ((x : Bytes) → P (c ∷ x) ≡ (Reader.one_node n >>= λ m. Q m x)) → Quiet mk (P []) →
    Reader.start c ≢ Reader.start_nothing → G true [] → G true (c ∷ []) →
    (n + 1 ≤ Limits.max_nodes → Outcome (further (clear n d) c) mk (Q (n + 1)) (λ i g. G i (c ∷ g)) (λ b u. T b (c ∷ u)) s) →
    Outcome (clear n d) mk P G T (c ∷ s)
unfolding Reader.one_node
node_local {mk = mk} {P} {G} {T} c n d s Q few h quiet begins g w o = go (ltb n Limits.max_nodes) refl
  where
    go : (b : Bool) → ltb n Limits.max_nodes ≡ b → Outcome (clear n d) mk P G T (c ∷ s)
    go true e = step c s (start_ascii c begins) (λ x. h x ∙ rw (e, Reader.one_node) refl) (o (omega (arith, leb_le {m = suc n} {n = Limits.max_nodes} e)))
    go false e =
        let full : n ≡ Limits.max_nodes = omega (arith, leb_lt {m = suc n} {n = Limits.max_nodes} e) in
        stopped too_many_nodes c s (λ x. h x ∙ rw (e, Reader.one_node) refl) quiet g (past (Fault.begins begins full (start_begins c n d begins ∙ ap (λ (x : ℕ). x + 1) full)) w)

-- a name: where it repeats another, it is refused at its closing quote
chars_unclosed : (k body : Bytes) → Chars k (body ++ (34 ∷ [])) [] → (chars_of body ≡ refused not_json) × LongChars body
chars_unclosed k body h = go (chars_local nothing body)
  where
    whole_read : chars_of (body ++ (34 ∷ [])) ≡ ok (read_of k [])
    whole_read = chars_complete (length (body ++ (34 ∷ []))) (omega arith) h

    go : CharsLocal nothing body → (chars_of body ≡ refused not_json) × LongChars body
    go (cut e g) = (e, g)
    go (took b used r e again t m) =
        absurd
        (omega (
          arith,
          ap length
              (ap (λ (x : Read Bytes). x.rest)
              (ok_injective
              (sym whole_read ∙
              ap chars_of (ap (λ (x : Bytes). x ++ (34 ∷ [])) e ∙ append_assoc used r (34 ∷ [])) ∙
              chars_complete (length (used ++ (r ++ (34 ∷ [])))) (omega arith) (t (r ++ (34 ∷ [])))))),
          length-append r (34 ∷ []),
        ))
    go (fault q good c t e again quiet g u m) =
        ok_not_refused (read_of k []) q
        (sym whole_read ∙ ap chars_of (ap (λ (x : Bytes). x ++ (34 ∷ [])) e ∙ append_assoc good (c ∷ t) (34 ∷ [])) ∙ again (t ++ (34 ∷ [])))

-- a string that is over is no beginning of a string that is refused
chars_quiet : (good z : Bytes) (q : Refusal) → chars_of (good ++ z) ≡ refused q → Quiet read_of (chars_of good) → chars_of good ≡ refused not_json
chars_quiet good z q h quiet = go (chars_local nothing good)
  where
    go : CharsLocal nothing good → chars_of good ≡ refused not_json
    go (cut e g) = e
    go (took b used r e again t m) =
        ok_not_refused (read_of b (r ++ z)) q
        (sym
        (ap chars_of (ap (λ (x : Bytes). x ++ z) e ∙ append_assoc used r z) ∙
        chars_complete (length (used ++ (r ++ z))) (omega arith) (t (r ++ z))) ∙
        h)
    go (fault x good' c t e again quiet' g u m) =
        let i = ap chars_of e ∙ again t in
        i ∙ ap refused (quiet_refused (subst (λ y. Quiet read_of y) i quiet))

abbrev name_then : {A : Type 0} → List Bytes → (Bytes → Bytes → Result A) → Bytes → Result A
name_then names next x = chars_of x >>= λ k. Reader.new_name k.got names k.rest >>= λ r. next k.got r

new_name_lem : {A : Type 0} (names : List Bytes) (rest : Bytes → Bytes → Result A) (k x : Bytes) (b : Bool) → is_one_of k names ≡ b →
    (Reader.new_name k names x >>= λ r. rest k r) ≡ elim b [ true ↦ refused repeated_name | false ↦ rest k x ]
unfolding Reader.new_name
new_name_lem names rest k x true e = rw (e, Reader.new_name) refl
new_name_lem names rest k x false e = rw (e, Reader.new_name) refl

module _ (m d : ℕ) {A B : Type 0} {mk : B → Bytes → A} {G : Bool → Bytes → Type 0} {T : B → Bytes → Type 0} (names : List Bytes)
    (rest : Bytes → Bytes → Result A) (s : Bytes) where
  repeated : (k used r : Bytes) → s ≡ used ++ r → Takes Chars k used → is_one_of k names ≡ true → G false used →
      ((g : Bytes) → LongChars g → G true g) → Outcome (tally m d Tally.quoted) mk (name_then names rest) G T s
  repeated k used r e t q g opens =
      fault repeated_name body.part 34 r (e ∙ ap (λ (x : Bytes). x ++ r) closed ∙ append_assoc body.part (34 ∷ []) r) refuses
      (quiet_at (bind_refused _ unclosed.0) early) (opens body.part unclosed.1)
      (past (Fault.quote refl (ap ends_in body.counted)) (subst (λ x. G false x) closed g)) (λ i. absurd (true≢false i))
    where
      body : Over (tally m d Tally.quoted) (used ++ []) (34 ∷ []) (tally m d Tally.quoted)
      body = chars_over m d (t [])

      closed : used ≡ body.part ++ (34 ∷ [])
      closed = sym (append-nil used) ∙ body.parts

      unclosed : (chars_of body.part ≡ refused not_json) × LongChars body.part
      unclosed = chars_unclosed k body.part (subst (λ (x : Bytes). Chars k x []) (append-nil used ∙ closed) (t []))

      refuses : (x : Bytes) → name_then names rest (body.part ++ (34 ∷ x)) ≡ refused repeated_name
      refuses x =
          ap (name_then names rest) (sym (ap (λ (y : Bytes). y ++ x) closed ∙ append_assoc body.part (34 ∷ []) x)) ∙
          bind_ok _ (chars_complete (length (used ++ x)) (omega arith) (t x)) ∙
          new_name_lem names rest k x true q

  name_local : ((i : Bool) (g : Bytes) → LongChars g → G i g) → ((k used : Bytes) → Takes Chars k used → G false used) →
      ((k used r : Bytes) → is_one_of k names ≡
      false → Takes Chars k used → Outcome (tallied (tally m d Tally.quoted) used) mk (rest k) (λ i g. G i (used ++ g))
      (λ b u. T b (used ++ u)) r) → Outcome (tally m d Tally.quoted) mk (name_then names rest) G T s
  name_local opens named follow = go (chars_local (tally m d Tally.quoted) s)
    where
      go : CharsLocal (tally m d Tally.quoted) s → Outcome (tally m d Tally.quoted) mk (name_then names rest) G T s
      go (cut e g) = cut (bind_refused _ e) (opens true s g)
      go (fault q good c t e again quiet g u l) =
          fault q good c t e (λ x. bind_refused _ (again x)) (quiet_at (bind_refused _ (chars_quiet good (c ∷ t) q (again t) quiet)) early)
          (opens true good g) (shown_map (λ i. opens i (good ++ (c ∷ []))) u) l
      go (took k used r e again t l) = by (is_one_of k names) refl
        where
          by : (b : Bool) → is_one_of k names ≡ b → Outcome (tally m d Tally.quoted) mk (name_then names rest) G T s
          by true q = repeated k used r e t q (named k used t) (opens true)
          by false q = resume _ s read_of chars_of k used r e again l (ext (λ x h. new_name_lem names rest k x false q) (follow k used r q t))

expect_word : (c : ℕ) (s : Bytes) → expect c s ≡ word (c ∷ []) s
unfolding expect word
expect_word c [] = refl
expect_word c (d ∷ s) = refl

-- a colon and a value behind a name
abbrev ColonRule : ℕ → Bytes → Bool → Bytes × Value → Bytes → Bytes → Type 0
ColonRule left k i e s r = (u : Bytes) × Structural 58 s u × Valued left i e.1 u r × (e.0 ≡ k)

-- a member behind its opening quote, and with it; completed sparingly, its name is new
abbrev MemberRest : ℕ → List Bytes → Bool → Bytes × Value → Bytes → Bytes → Type 0
MemberRest left names i e s r = (t : Bytes) × (u : Bytes) × Chars e.0 s t × Structural 58 t u × Valued left i e.1 u r × (i ≡ true → is_one_of e.0 names ≡ false)

abbrev pub Member : ℕ → List Bytes → Bool → Bytes × Value → Bytes → Bytes → Type 0
Member left names i e s r = (t : Bytes) × (u : Bytes) × Grammar.String e.0 s t × Structural 58 t u × Valued left i e.1 u r × (i ≡ true → is_one_of e.0 names ≡ false)

-- a step moved out of the brackets
pub bind_through :
    {A B C : Type 0} (x : Result A) (f : A → Result B) (f' : A → Result C) (g : B → Result C) → ((a : A) → f' a ≡ (f a >>= g)) →
    (x >>= f') ≡ (x >>= f >>= g)
bind_through (ok a) f f' g h = h a
bind_through (refused q) f f' g h = refl

-- what the reader of members is made of, over the reader of values
module _ (left : ℕ) (val : Parser Value) (vlocal : ValueLocal left val) (vsound : ParserSound left val) (vover : (n : ℕ) → val n [] ≡ refused not_json) where
  abbrev colon_then : ℕ → Bytes → Bytes → Result (Parsed (Bytes × Value))
  colon_then m k r = expect 58 (skip r) >>= λ u. val m (skip u) >>= λ v. ok (record { tree = (k, v.tree); rest = v.rest; count = v.count })

  skipped_over : (m : ℕ) → val m (skip []) ≡ refused not_json
  unfolding skip
  skipped_over m = vover m

  -- a colon counts nothing
  colon_clear : (m d : ℕ) (used : Bytes) → Takes (Lead (IsWord (58 ∷ []))) tt used → tallied (clear m d) used ≡ clear m d
  colon_clear m d used t = let w = t [] in ap (tallied (clear m d)) (sym (append-nil used)) ∙ ws_clear m d w.1 ∙ ap (tallied (clear m d)) w.2

  colon_local : (m d : ℕ) (k s : Bytes) → m ≤ Limits.max_nodes → d + left ≡ Limits.max_depth →
      Outcome (clear m d) parsed_of (colon_then m k) (λ i. Completes (ColonRule left k i)) (Takes (EntryThen (ColonRule left k true))) s
  unfolding expect
  colon_local m d k s few deep =
      bind _ s
      (leading {R = λ i. IsWord (58 ∷ [])} {S = IsWord (58 ∷ [])} m d (expect 58) s early λ sp y i. ext (λ x h. expect_word 58 x)
      (word_local (clear m d) (58 ∷ []) refl y))
      (λ i g. finish (48 ∷ []) refl (λ x. (k, number (48 ∷ []))) λ x z r h.
      (48 ∷ r, structural (ws_at h.2 h.1) no_space, zero_valued left i r, refl))
      (λ b. quiet_at (bind_refused _ (skipped_over m)) early) λ b used r e t o.
      moved (colon_clear m d used t) (bind _ r (leading {R = Valued left} {S = ValueThen left} m d (val m) r (quiet_at (vover m) early)
      λ sp y i. vlocal m d y few deep) (λ i g. behind used (λ v. (k, v)) λ v z y h. let w = t z in (
        h.0,
        structural (ws_at w.2 w.1) h.1,
        h.2,
        refl,
      )) (λ c. all_read ((k, c.0), c.1)) λ c more x i h o'.
      done ((k, c.0), c.1) x
      (rw (append-nil more) λ y. regroup (λ (z : Bytes). EntryThen (ColonRule left k true) ((k, c.0), c.1) z y) used more y
      (let w = t (more ++ y) in let j = h y in (j.2.0, (j.0, structural (ws_at w.2 w.1) j.1, j.2.1, refl), j.2.2))))

  unfoldable pub member_of : List Bytes → Parser (Bytes × Value)
  member_of names n s = expect 34 s >>= λ t. Reader.one_node n >>= λ m. name_then names (colon_then m) t

  -- what has been counted behind a value and behind a member
  pub value_entered : (n d : ℕ) (u : Bytes) (b : Value × ℕ) → val n u ≡ ok (parsed_of b []) → EntryRead n d b.1 u
  value_entered n d u b e =
      let r = vsound n u (parsed_of b []) e in
      record { most = r.most; counted = counted_at (sym r.counted) (both (spells_counted n d r.spelled) λ f k. ws_counted (n + nodes b.0) d f k r.spaces) }

  record MemberRead (n : ℕ) (s : Bytes) (p : Parsed (Bytes × Value)) : Type 0 where
    after_name : Bytes
    from : Bytes
    to : Bytes
    name : Grammar.String p.tree.0 s after_name
    colon : Structural 58 after_name from
    spelled : Spells p.tree.1 from to
    spaces : Ws to p.rest
    counted : p.count ≡ n + 1 + nodes p.tree.1
    most : p.count ≤ Limits.max_nodes

  member_read : (names : List Bytes) (n : ℕ) (s : Bytes) (p : Parsed (Bytes × Value)) → member_of names n s ≡ ok p → MemberRead n s p
  unfolding member_of
  member_read names n s p e =
      bind_with (expect 34 s) _ e λ t f1 e1.
      bind_with (Reader.one_node n) _ e1 λ m f2 e2.
      bind_with (chars_of t) _ e2 λ k f3 e3.
      bind_with (Reader.new_name k.got names k.rest) _ e3 λ r f4 e4.
      bind_with (expect 58 (skip r)) _ e4 λ u f5 e5.
      bind_with (val m (skip u)) _ e5 λ v f6 e6.
      let w = vsound m (skip u) v f6 in
      subst (λ x. MemberRead n s x) (ok_injective e6)
      (record {
        after_name = k.rest;
        from = skip u;
        to = w.to;
        name = subst (λ (x : Bytes). Grammar.String k.got x k.rest) (sym (expect_sound 34 s t f1))
            (Grammar.string refl (chars_sound (length t) t k f3));
        colon = structural_at (ws_at (ap skip (sym (new_name_sound k.got names k.rest r f4).1)) (skip_ws k.rest))
            (expect_sound 58 (skip r) u f5);
        spelled = w.spelled;
        spaces = w.spaces;
        counted = w.counted ∙ ap (λ (x : ℕ). x + nodes v.tree) (one_node_sound n m f2).0;
        most = w.most;
      })

  pub member_entered : (names : List Bytes) (n d : ℕ) (u : Bytes) (b : (Bytes × Value) × ℕ) → member_of names n u ≡ ok (parsed_of b []) → EntryRead n d b.1 u
  member_entered names n d u b e =
      let r = member_read names n u (parsed_of b []) e in
      record {
        most = r.most;
        counted = counted_at (sym r.counted)
            (behind_of
            (string_counted n d r.name ∙ structural_counted (n + 1) d Tally.outside tt refl refl (n + 1) d refl r.colon)
            (both (spells_counted (n + 1) d r.spelled) λ f k. ws_counted (n + 1 + nodes b.0.1) d f k r.spaces));
      }

  pub member_takes : (names : List Bytes) (n : ℕ) (s : Bytes) (p : Parsed (Bytes × Value)) → member_of names n s ≡ ok p → length p.rest + 1 ≤ length s
  member_takes names n s p e = let r = member_read names n s p e in omega (arith, string_length r.name, structural_length r.colon, spells_length r.spelled, ws_length r.spaces)

  pub value_takes : (n : ℕ) (s : Bytes) (p : Parsed Value) → val n s ≡ ok p → length p.rest + 1 ≤ length s
  value_takes n s p e = let r = vsound n s p e in omega (arith, spells_length r.spelled, ws_length r.spaces)

  -- a name with the value 0
  zero_member : (names : List Bytes) (i : Bool) (k : Bytes) (s r : Bytes) → Chars k s (58 ∷ 48 ∷ r) → (i ≡ true → is_one_of k names ≡ false) →
      MemberRest left names i (k, number (48 ∷ [])) s r
  zero_member names i k s r c new = (58 ∷ 48 ∷ r, 48 ∷ r, c, structural no_space no_space, zero_valued left i r, new)

  name_opens : (names : List Bytes) (i : Bool) (g : Bytes) → LongChars g → Completes (MemberRest left names i) g
  name_opens names i g k =
      finish (58 ∷ 48 ∷ []) refl (λ x. (x, number (48 ∷ []))) (λ x z r h. zero_member names i x z r h.0 (λ e. fresh_name names x h.1))
      (k (suc (longest names)))

  rest_local : (names : List Bytes) (m d : ℕ) (s : Bytes) → m ≤ Limits.max_nodes → d + left ≡ Limits.max_depth →
      Outcome (tally m d Tally.quoted) parsed_of (name_then names (colon_then m)) (λ i. Completes (MemberRest left names i))
      (Takes (EntryThen (MemberRest left names true))) s
  rest_local names m d s few deep =
      name_local m d names (colon_then m) s (name_opens names)
      (λ k used t.
      record {
        end = 58 ∷ 48 ∷ [];
        what = (k, number (48 ∷ []));
        spelled = λ r. zero_member names false k (used ++ (58 ∷ 48 ∷ r)) r (t (58 ∷ 48 ∷ r)) (λ e. absurd (false≢true e));
        plain = refl;
      }) λ k used r new t.
      moved (ap (tallied (tally m d Tally.quoted)) (sym (append-nil used)) ∙ chars_counted m d (t [])) (weaken
      (λ i g. behind used (λ e. e) λ e z y h. (
        z,
        h.0,
        subst (λ (x : Bytes). Chars x (used ++ z) z) (sym h.3) (t z),
        h.1,
        h.2,
        λ q. subst
            (λ (x : Bytes). is_one_of x names ≡ false) (sym h.3) new,
      ))
      (λ b u h y. regroup (λ (z : Bytes). EntryThen (MemberRest left names true) b z y) used u y
      (let j = h y in (
        j.0,
        (
          u ++
              y,
          j.1.0,
          subst (λ (x : Bytes). Chars x (used ++ (u ++ y)) (u ++ y)) (sym j.1.3) (t (u ++ y)),
          j.1.1,
          j.1.2,
          λ q. subst (λ (x : Bytes). is_one_of x names ≡ false) (sym j.1.3) new,
        ),
        j.2,
      )))
      (colon_local m d k r few deep))

  quoted : (names : List Bytes) (i : Bool) {e : Bytes × Value} {s r : Bytes} → MemberRest left names i e s r → Member left names i e (34 ∷ s) r
  quoted names i h = (h.0, h.1, Grammar.string refl h.2, h.3, h.4, h.5)

  quote_opens : (names : List Bytes) (i : Bool) → Completes (Member left names i) (34 ∷ [])
  quote_opens names i = behind (34 ∷ []) (λ e. e) (λ e z r h. quoted names i h) (name_opens names i [] chars_opens)

  pub member_opens : (names : List Bytes) → Completes (Member left names true) []
  member_opens names = let k = quote_opens names true in record { end = 34 ∷ k.end; what = k.what; spelled = k.spelled; plain = k.plain }

  pub member_local : (names : List Bytes) (n d : ℕ) (s : Bytes) → n ≤ Limits.max_nodes → d + left ≡ Limits.max_depth →
      Outcome (clear n d) parsed_of (member_of names n) (λ i. Completes (Member left names i)) (Takes (EntryThen (Member left names true))) s
  unfolding member_of expect
  member_local names n d [] few deep = cut refl (member_opens names)
  member_local names n d (c ∷ s) few deep = go (eqb 34 c) refl
    where
      go : (b : Bool) → eqb 34 c ≡ b → Outcome (clear n d) parsed_of (member_of names n) (λ i. Completes (Member left names i)) (Takes (EntryThen (Member left names true))) (c ∷ s)
      go true q =
          subst (λ (b : ℕ). Outcome (clear n d) parsed_of (member_of names n) (λ i. Completes (Member left names i)) (Takes (EntryThen
          (Member left names true))) (b ∷ s)) (eqb_true 34 c q) (node_local 34 n d s (λ m x. name_then names (colon_then m) x) few (λ x.
          refl) early (starts Reader.start_text refl) (member_opens names) (quote_opens names true) λ more.
          weaken (λ i g. behind (34 ∷ []) (λ e. e) λ e z r h. quoted names i h)
          (λ b u h y. let j = h y in (j.0, quoted names true j.1, j.2)) (rest_local names (n + 1) d s more deep))
      go false q = stopped not_json c s (λ x. rw (q, expect) refl) early (member_opens names) dead
