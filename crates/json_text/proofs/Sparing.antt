-- Trees that pass neither 5 nor 8, put together from their parts, and names that are new because they are long.
-- Assumes nothing.
use mathlib.Core.Bool.{Bool, false, false≢true, true, true≢false}
use mathlib.Core.List.{List, [], ◌∷◌}
use mathlib.Core.Path.{ap, refl, subst, sym, ◌∙◌, ◌≡◌}
use Prim.Native.Nat.{max, suc, ℕ, ◌≤◌}
use native.Mathlib.Omega.{arith}
use lib.ListN.{length}
use Rattle.json_text.proofs.Complete.{Repeats, before, inside, within}
use Rattle.json_text.proofs.Laws.{same_bytes_true}
use Rattle.json_text.proofs.Sound.{one_here, one_there}
use Rattle.json_text.specs.Bytes.{Bytes, is_one_of, same_bytes}
use Rattle.json_text.specs.Fault.{Part, PartIn, Passes, Twice, again, in_array, in_object, itself, later_element, later_member, passes_depth, passes_name, this_element, this_member}
use Rattle.json_text.specs.Json.{Members, Value, Values, array, bool, cons, empty, keys, member, nil, null, number, object, text}
use Rattle.json_text.specs.Limits
use Rattle.json_text.specs.Limits.{depth, depth_in, depth_of}
use Rattle.json_text.specs.Refusal.{repeated_name, too_deep}

-- so many brackets at most are open at once, and no name is repeated, nor one of `names`
pub record Sparing (left : ℕ) (v : Value) : Type 0 where
  pub deep : depth v ≤ left
  pub single : (ms : Members) → Part (object ms) v → ¬ Twice ms

pub record SparingIn (left : ℕ) (vs : Values) : Type 0 where
  pub deep : depth_in vs ≤ left
  pub single : (ms : Members) → PartIn (object ms) vs → ¬ Twice ms

pub record SparingOf (left : ℕ) (names : List Bytes) (ms : Members) : Type 0 where
  pub deep : depth_of ms ≤ left
  pub single : ¬ Repeats names ms

pub null_sparing : (left : ℕ) → Sparing left null
unfolding depth
null_sparing left = record { deep = omega arith; single = λ ms p. elim p [ ] }

pub bool_sparing : (left : ℕ) (b : Bool) → Sparing left (bool b)
unfolding depth
bool_sparing left b = record { deep = omega arith; single = λ ms p. elim p [ ] }

pub number_sparing : (left : ℕ) (x : Bytes) → Sparing left (number x)
unfolding depth
number_sparing left x = record { deep = omega arith; single = λ ms p. elim p [ ] }

pub text_sparing : (left : ℕ) (x : Bytes) → Sparing left (text x)
unfolding depth
text_sparing left x = record { deep = omega arith; single = λ ms p. elim p [ ] }

pub nil_sparing : (left : ℕ) → SparingIn left nil
unfolding depth
nil_sparing left = record { deep = omega arith; single = λ ms p. elim p [ ] }

pub cons_sparing : (left : ℕ) (v : Value) (vs : Values) → Sparing left v → SparingIn left vs → SparingIn left (cons v vs)
unfolding depth
cons_sparing left v vs h k = record { deep = omega (arith, h.deep, k.deep); single = go }
  where
    go : (ms : Members) → PartIn (object ms) (cons v vs) → ¬ Twice ms
    go ms (this_element p) t = h.single ms p t
    go ms (later_element p) t = k.single ms p t

pub array_sparing : (left : ℕ) (vs : Values) → SparingIn left vs → Sparing (suc left) (array vs)
unfolding depth
array_sparing left vs h = record { deep = omega (arith, h.deep); single = go }
  where
    go : (ms : Members) → Part (object ms) (array vs) → ¬ Twice ms
    go ms (in_array p) t = h.single ms p t

pub empty_sparing : (left : ℕ) (names : List Bytes) → SparingOf left names empty
unfolding depth is_one_of
empty_sparing left names = record { deep = omega arith; single = go }
  where
    go : ¬ Repeats names empty
    go (before k e f) = false≢true f
    go (within t) = elim t [ ]
    go (inside p t) = elim p [ ]

pub member_sparing : (left : ℕ) (names : List Bytes) (k : Bytes) (v : Value) (ms : Members) → is_one_of k names ≡ false → Sparing left v →
    SparingOf left (k ∷ names) ms → SparingOf left names (member k v ms)
unfolding depth is_one_of
member_sparing left names k v ms new h r = record { deep = omega (arith, h.deep, r.deep); single = go }
  where
    earlier : (o : Bytes) → is_one_of o names ≡ true → (b : Bool) → same_bytes o k ≡ b → is_one_of o (k ∷ keys ms) ≡ true → ⊥
    earlier o e true q f = true≢false (sym e ∙ subst (λ (x : Bytes). is_one_of x names ≡ false) (sym (same_bytes_true o k q)) new)
    earlier o e false q f = r.single (before o (one_there o k names e) (rw (q, is_one_of) at f))

    go : ¬ Repeats names (member k v ms)
    go (before o e f) = earlier o e (same_bytes o k) refl f
    go (within (again f)) = r.single (before k (one_here k names) f)
    go (within (Twice.later t)) = r.single (within t)
    go (inside {ns} (this_member p) t) = h.single ns p t
    go (inside (later_member p) t) = r.single (inside p t)

pub object_sparing : (left : ℕ) (ms : Members) → SparingOf left [] ms → Sparing (suc left) (object ms)
unfolding depth
object_sparing left ms h = record { deep = omega (arith, h.deep); single = go }
  where
    go : (ns : Members) → Part (object ns) (object ms) → ¬ Twice ns
    go ns itself t = h.single (within t)
    go ns (in_object p) t = h.single (inside p t)

pub sparing_deep : {v : Value} → Sparing Limits.max_depth v → ¬ Passes too_deep v
sparing_deep h (passes_depth d) = omega (arith, h.deep)

pub sparing_name : {v : Value} → Sparing Limits.max_depth v → ¬ Passes repeated_name v
sparing_name h (passes_name {ms} p t) = h.single ms p t

-- a name longer than all others is new
pub longest : List Bytes → ℕ
longest [] = 0
longest (k ∷ ks) = max (length k) (longest ks)

pub fresh_name : (names : List Bytes) (x : Bytes) → suc (longest names) ≤ length x → is_one_of x names ≡ false
unfolding longest is_one_of
fresh_name [] x h = refl
fresh_name (k ∷ ks) x h = go (same_bytes x k) refl (fresh_name ks x (omega arith))
  where
    go : (b : Bool) → same_bytes x k ≡ b → is_one_of x ks ≡ false → is_one_of x (k ∷ ks) ≡ false
    go true q r = absurd (omega (arith, ap length (same_bytes_true x k q)))
    go false q r = rw (q, is_one_of) r
