-- Which of 4 to 8 a text is refused with, and where: 4 at the first byte after which no JSON text can follow, 5 to 8 at the first byte that passes a limit, whichever comes first.
-- Assumes nothing.
use mathlib.Core.Bool.{Bool, false, true, true≢false}
use mathlib.Core.List.{append_assoc, append-nil, [], ◌++◌, ◌∷◌}
use mathlib.Core.Logic.{inl, inr, ◌↔◌, ◌⊎◌, ◌≢◌}
use mathlib.Core.Path.{ap, refl, subst, sym, ◌∙◌, ◌≡◌}
use Prim.Native.Nat.{ℕ, ◌≤◌}
use native.Mathlib.Omega.{arith}
use lib.Dec.{leb}
use lib.ListN.{length}
use Rattle.json_text.proofs.Ascii.{all_ascii, cut_utf8, is_ascii, stands_ascii, more_utf8}
use Rattle.json_text.proofs.Complete.{Why, passed, reads, why_refused}
use Rattle.json_text.proofs.Laws.{leb_true, ok_not_refused}
use Rattle.json_text.proofs.Local.{Goes, ParseLocal, parse_local, tree_only}
use Rattle.json_text.proofs.Outcome
use Rattle.json_text.proofs.Outcome.{Quiet, Shown, cut, fault, quiet_refused, spares, took}
use Rattle.json_text.proofs.Sound.{json_sound, leb_false, leb_le, leb_lt}
use Rattle.json_text.proofs.Sparing.{sparing_deep, sparing_name}
use Rattle.json_text.specs.Bytes.{Bytes}
use Rattle.json_text.specs.Fault
use Rattle.json_text.specs.Fault.{Answered, Continues, FirstFault, Limit, StandsAt, NotJson, Passes, Past, eight, five, seven, six}
use Rattle.json_text.specs.Grammar.{JsonText}
use Rattle.json_text.specs.Json.{Value}
use Rattle.json_text.specs.Limits.{max_bytes, max_depth}
use Rattle.json_text.specs.Reader.{json, parse}
use Rattle.json_text.specs.Refusal.{Refusal, Result, not_json, ok, refused, too_many_nodes}
use Rattle.json_text.specs.Tally.{Tally, nothing, tallied}
use Rattle.json_text.specs.Utf8.{scalar, utf8}

abbrev head : Bytes → ℕ
head [] = 0
head (c ∷ s) = c

refused_injective : {A : Type 0} {q r : Refusal} → ◌≡◌ {A = Result A} (refused q) (refused r) → q ≡ r
refused_injective e = cc

stands_limit : {t : Tally} {c : ℕ} {q : Refusal} → StandsAt t c q → Limit q
stands_limit (Fault.bracket h x y) = five
stands_limit (Fault.numeral h x y) = six
stands_limit (Fault.begins h x y) = seven
stands_limit (Fault.quote h x) = eight

passes_limit : {q : Refusal} {v : Value} → Passes q v → Limit q
passes_limit (Fault.passes_depth h) = five
passes_limit (Fault.passes_number p h) = six
passes_limit (Fault.passes_nodes h) = seven
passes_limit (Fault.passes_name p h) = eight

limit_not_four : {q : Refusal} → Limit q → q ≢ not_json
limit_not_four five e = let z : ◌≡◌ {A = Bool} true false = cc in true≢false z
limit_not_four six e = let z : ◌≡◌ {A = Bool} true false = cc in true≢false z
limit_not_four seven e = let z : ◌≡◌ {A = Bool} true false = cc in true≢false z
limit_not_four eight e = let z : ◌≡◌ {A = Bool} true false = cc in true≢false z

-- a JSON text is read, or passes the limit of its refusal
pub text_answered : (s : Bytes) (v : Value) → JsonText v s → Answered v (parse s)
text_answered s v t = go (why_refused s v t)
  where
    go : Why (parse s) v (λ q. Passes q v) → Answered v (parse s)
    go (reads h) = subst (λ (x : Result Value). Answered v x) (sym h) Fault.read
    go (passed q h c) = subst (λ (x : Result Value). Answered v x) (sym h) (Fault.passing c)

answered_passes : {v : Value} {q : Refusal} → Answered v (refused q) → Passes q v
answered_passes (Fault.passing c) = c

passes_limit_of : (s : Bytes) (v : Value) (q : Refusal) → JsonText v s → parse s ≡ refused q → Passes q v
passes_limit_of s v q t e = answered_passes (subst (λ (x : Result Value). Answered v x) e (text_answered s v t))

-- so it is never refused with 4
pub never_four : (s : Bytes) (v : Value) → JsonText v s → parse s ≢ refused not_json
never_four s v t e = limit_not_four (passes_limit (passes_limit_of s v not_json t e)) refl

-- 5 to 8 stay where they stand, whatever is added
pub limit_stays : (p : Bytes) (q : Refusal) → Limit q → parse p ≡ refused q → (t : Bytes) → parse (p ++ t) ≡ refused q
limit_stays p q l e t = go (parse_local p)
  where
    go : ParseLocal p → parse (p ++ t) ≡ refused q
    go (took v used r i again u m) = ok_not_refused v q (sym (ap parse i ∙ again r (Outcome.follows_self r)) ∙ e)
    go (cut i g) = absurd (limit_not_four l (refused_injective (sym e ∙ i)))
    go (fault r good c x i again quiet g u edge) =
        ap parse (ap (λ (y : Bytes). y ++ t) i ∙ append_assoc good (c ∷ x) t) ∙
        again (x ++ t) ∙
        ap refused (refused_injective (sym (ap parse i ∙ again x) ∙ e))

-- every beginning of a beginning can be continued
pub shorter : (p t : Bytes) → Continues (p ++ t) → Continues p
shorter p t k = record { more = t ++ k.more; tree = k.tree; is_json = subst (λ (x : Bytes). JsonText k.tree x) (append_assoc p t k.more) k.is_json }

not_continued : (good : Bytes) (c : ℕ) → ((x : Bytes) → parse (good ++ (c ∷ x)) ≡ refused not_json) → ¬ Continues (good ++ (c ∷ []))
not_continued good c again k =
    never_four (good ++ (c ∷ k.more)) k.tree
    (subst (λ (x : Bytes). JsonText k.tree x) (append_assoc good (c ∷ []) k.more) k.is_json) (again k.more)

-- what follows the byte of 7 need not pass 5
spares_nodes : {t : Tally} {c : ℕ} {q : Refusal} (m : StandsAt t c q) → q ≡ too_many_nodes → spares m ≡ true
spares_nodes (Fault.bracket h x y) e = let z : ◌≡◌ {A = Bool} true false = cc in absurd (true≢false z)
spares_nodes (Fault.numeral h x y) e = refl
spares_nodes (Fault.begins h x y) e = refl
spares_nodes (Fault.quote h x) e = let z : ◌≡◌ {A = Bool} true false = cc in absurd (true≢false z)

-- 4
none_of_five_to_eight : (s : Bytes) → parse s ≡ refused not_json → (p t : Bytes) (q : Refusal) → s ≡ p ++ t → Limit q → parse p ≢ refused q
none_of_five_to_eight s e p t q i l h = limit_not_four l (refused_injective (sym (limit_stays p q l h t) ∙ ap parse (sym i) ∙ e))

pub four : (s : Bytes) → parse s ≡ refused not_json → NotJson s
four s e = go (parse_local s)
  where
    go : ParseLocal s → NotJson s
    go (took v used r i again u m) = ok_not_refused v not_json (sym (ap parse i ∙ again r (Outcome.follows_self r)) ∙ e)
    go (cut i g) =
        record {
          good = s;
          rest = [];
          parts = sym (append-nil s);
          continues = g.0;
          decoded = λ d. more_utf8 s g.0.more d g.2;
          dead = λ c t h. absurd (omega (arith, ap length h));
          over = λ h v t. never_four s v t e;
          none_before = none_of_five_to_eight s e;
        }
    go (fault r good c x i again quiet g u edge) = at (refused_injective (sym (ap parse i ∙ again x) ∙ e)) u again
      where
        at : {q : Refusal} → q ≡ not_json → Shown (tallied nothing good) c (λ i. Goes max_depth i (good ++ (c ∷ []))) q →
            ((t : Bytes) → parse (good ++ (c ∷ t)) ≡ refused q) → NotJson s
        at h Outcome.dead stays =
            record {
              good = good;
              rest = c ∷ x;
              parts = i;
              continues = g.0;
              decoded = λ d. more_utf8 good g.0.more (cut_utf8 good c x (subst (λ (b : Bytes). utf8 scalar b ≡ true) i d) edge) g.2;
              dead = λ d t j. subst (λ (b : ℕ). ¬ Continues (good ++ (b ∷ []))) (ap head j) (not_continued good c stays);
              over = λ b v t. absurd (omega (arith, ap length b));
              none_before = none_of_five_to_eight s e;
            }
        at h (Outcome.past m k) stays = absurd (limit_not_four (stands_limit m) h)

-- 5 to 8
pub five_to_eight : (s : Bytes) (q : Refusal) → Limit q → parse s ≡ refused q → Past q s
five_to_eight s q l e = go (parse_local s)
  where
    go : ParseLocal s → Past q s
    go (took v used r i again u m) = ok_not_refused v q (sym (ap parse i ∙ again r (Outcome.follows_self r)) ∙ e)
    go (cut i g) = absurd (limit_not_four l (refused_injective (sym e ∙ i)))
    go (fault r good c x i again quiet g u edge) = subst (λ (a : Refusal). Past a s) here (at u (subst (λ (a : Refusal). Limit a) (sym here) l) again)
      where
        here : r ≡ q
        here = refused_injective (sym (ap parse i ∙ again x) ∙ e)

        before : (p t : Bytes) (a : Refusal) → good ≡ p ++ t → Limit a → parse p ≢ refused a
        before p t a j m h = limit_not_four m (quiet_refused (subst (λ y. Quiet tree_only y) (ap parse j ∙ limit_stays p a m h t) quiet))

        whole : utf8 scalar s ≡ true → utf8 scalar good ≡ true
        whole d = cut_utf8 good c x (subst (λ (b : Bytes). utf8 scalar b ≡ true) i d) edge

        ascii_behind : (w : Bytes) → is_ascii c ≡ true → all_ascii w ≡ true → all_ascii (c ∷ w) ≡ true
        ascii_behind w a b = rw (a, all_ascii) b

        at : {a : Refusal} → Shown (tallied nothing good) c (λ i. Goes max_depth i (good ++ (c ∷ []))) a → Limit a →
            ((t : Bytes) → parse (good ++ (c ∷ t)) ≡ refused a) → Past a s
        at Outcome.dead m h = absurd (limit_not_four m refl)
        at {a} (Outcome.past n k) m h =
            record {
              good = good;
              byte = c;
              rest = x;
              parts = i;
              stands = n;
              continues = k.0;
              decoded =
                  λ d. ap (utf8 scalar) (append_assoc good (c ∷ []) k.0.more) ∙
                  more_utf8 good (c ∷ k.0.more) (whole d) (ascii_behind k.0.more (stands_ascii n) k.2);
              tie = λ j. sparing_deep (k.1 (spares_nodes n j));
              whatever = h;
              passes = λ t v j. passes_limit_of (good ++ (c ∷ t)) v a j (h t);
              spared = g.0;
              spared_decoded = λ d. more_utf8 good g.0.more (whole d) g.2;
              not_deep = sparing_deep (g.1 refl);
              not_twice = sparing_name (g.1 refl);
              none_before = before;
            }

-- nothing but 4 to 8 comes behind 2 and 3
four_to_eight : (s : Bytes) (q : Refusal) → parse s ≡ refused q → (q ≡ not_json) ⊎ Limit q
four_to_eight s q e = go (parse_local s)
  where
    by : {t : Tally} {c : ℕ} {A : Bool → Type 0} {r : Refusal} → Shown t c A r → (r ≡ not_json) ⊎ Limit r
    by Outcome.dead = inl refl
    by (Outcome.past m k) = inr (stands_limit m)

    go : ParseLocal s → (q ≡ not_json) ⊎ Limit q
    go (took v used r i again u m) = ok_not_refused v q (sym (ap parse i ∙ again r (Outcome.follows_self r)) ∙ e)
    go (cut i g) = inl (refused_injective (sym e ∙ i))
    go (fault r good c x i again quiet g u edge) = subst (λ (a : Refusal). (a ≡ not_json) ⊎ Limit a) (refused_injective (sym (ap parse i ∙ again x) ∙ e)) (by u)

parsed_as : (s : Bytes) (x : Result Value) → length s ≤ max_bytes → utf8 scalar s ≡ true → parse s ≡ x → json s ≡ x
unfolding json
parsed_as s x l u e = rw (leb_true (length s) max_bytes l, json, u) e

json_is : (s : Bytes) → length s ≤ max_bytes → utf8 scalar s ≡ true → json s ≡ parse s
json_is s l u = parsed_as s (parse s) l u refl

pub json_answered : (s : Bytes) (v : Value) → length s ≤ max_bytes → utf8 scalar s ≡ true → JsonText v s → Answered v (json s)
json_answered s v l u t = subst (λ (x : Result Value). Answered v x) (sym (json_is s l u)) (text_answered s v t)

shown : (s : Bytes) (q : Refusal) → json s ≡ refused q → FirstFault s q
unfolding json
shown s q e = long (leb (length s) max_bytes) refl
  where
    parsed : length s ≤ max_bytes → utf8 scalar s ≡ true → parse s ≡ refused q → (q ≡ not_json) ⊎ Limit q → FirstFault s q
    parsed l u h (inl i) = subst (λ (a : Refusal). FirstFault s a) (sym i) (Fault.unspelled l u (four s (h ∙ ap refused i)))
    parsed l u h (inr m) = Fault.past l u (five_to_eight s q m h)

    decoded : (b : Bool) → utf8 scalar s ≡ b → length s ≤ max_bytes → FirstFault s q
    decoded true u l = let h = sym (json_is s l u) ∙ e in parsed l u h (four_to_eight s q h)
    decoded false u l = subst (λ (a : Refusal). FirstFault s a) (refused_injective (rw (leb_true (length s) max_bytes l, json, u) at e)) (Fault.undecoded l u)

    long : (b : Bool) → leb (length s) max_bytes ≡ b → FirstFault s q
    long true i = decoded (utf8 scalar s) refl (leb_le i)
    long false i = subst (λ (a : Refusal). FirstFault s a) (refused_injective (rw (i, json) at e)) (Fault.long (leb_lt i))

not_read : (s : Bytes) (n : NotJson s) (v : Value) → JsonText v s → ⊥
not_read s n v t = go n.rest refl
  where
    go : (r : Bytes) → n.rest ≡ r → ⊥
    go [] e = n.over e v t
    go (c ∷ r) e =
        n.dead c r e
        (record {
          more = r;
          tree = v;
          is_json = subst (λ (x : Bytes). JsonText v x)
              (n.parts ∙ ap (λ (x : Bytes). n.good ++ x) e ∙ sym (append_assoc n.good (c ∷ []) r)) t;
        })

answered : (s : Bytes) (q : Refusal) → FirstFault s q → json s ≡ refused q
unfolding json
answered s q (Fault.long l) = rw (leb_false (length s) max_bytes l, json) refl
answered s q (Fault.undecoded l u) = rw (leb_true (length s) max_bytes l, json, u) refl
answered s q (Fault.unspelled l u n) = json_is s l u ∙ go (parse s) refl
  where
    go : (x : Result Value) → parse s ≡ x → parse s ≡ refused not_json
    go (ok v) e = absurd (not_read s n v (json_sound s v (json_is s l u ∙ e)).is_json)
    go (refused r) e = by (four_to_eight s r e)
      where
        by : (r ≡ not_json) ⊎ Limit r → parse s ≡ refused not_json
        by (inl h) = e ∙ ap refused h
        by (inr m) = absurd (n.none_before s [] r (sym (append-nil s)) m e)
answered s q (Fault.past l u n) = json_is s l u ∙ ap parse n.parts ∙ n.whatever n.rest

-- A text is refused with a number exactly where that number is its first fault.
pub first_fault : (s : Bytes) (q : Refusal) → (json s ≡ refused q) ↔ FirstFault s q
first_fault s q = (shown s q, answered s q)
