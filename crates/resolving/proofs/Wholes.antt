-- A written array or object, its parts looked at one by one.
-- Assumes nothing.
use Rattle.std.specs.Prelude.{Option, Some, None, Result as Fallible, Ok, Err}
use Rattle.std.specs.Option.{is_some}
use mathlib.Core.Bool.{Bool, false, true, ◌&&◌}
use mathlib.Core.List.{List, [], ◌++◌, ◌∷◌, append_assoc, append-nil}
use mathlib.Core.Path.{ap, refl, subst, sym, ◌∙◌, ◌≡◌}
use Prim.Native.Nat.{ℕ, ◌+◌, ◌-◌, ◌≤◌}
use native.Mathlib.Omega.{arith}
use lib.ListN.{length}
use Rattle.json_text.specs.Bytes.{Bytes}
use Rattle.json_text.specs.Links.{Linked}
use Rattle.json_text.specs.Json.{Members, Value, Values}
use Rattle.json_text.specs.Limits.{depth, depth_in, depth_of}
use Rattle.json_text.specs.Refusal.{Refusal, Result, ok, refused, ◌>>=◌}
use Rattle.members.specs.Condition.{Condition}
use Rattle.members.specs.Sheet.{Sheet}
use Rattle.paths.specs.Children.{ChildAt, ChildrenAt, Given, begun, children_of}
use Rattle.paths.specs.Layered.{kids, value_node}
use Rattle.paths.specs.Lazy as lazy
use Rattle.paths.specs.Lazy.{operand, operand_in, operand_of}
use Rattle.paths.specs.Marks.{Heard, Left, ResolvedAs, gathered_of, heard, resolved_of}
use Rattle.paths.specs.Matched.{Holds}
use Rattle.semantics.specs.Names.{Names}
use Rattle.semantics.specs.Operand.{Resolved, both, missing, present, same}
use Rattle.paths.specs.Stored as stored
use Rattle.paths.specs.Stored.{Fits, fields_of, items_of, meant, table, tree}
use Rattle.paths.specs.declared.children.Children.{Children}
use Rattle.paths.specs.declared.operand.Kind.TheVariants as kinds
use Rattle.paths.specs.declared.operand.Operand.{Operand}
use Rattle.paths.specs.declared.operand.EvalError.{EvalError}
use Rattle.paths.specs.declared.operand.EvalError.TheVariants as errors
use Rattle.resolving.proofs.Alike.{walk_begins, walk_kids, walk_named}
use Rattle.resolving.proofs.Marking.{heard_none, heard_then, left_none, left_then}
use Rattle.paths.proofs.Stands.{impossible}
use Rattle.paths.proofs.Trees.{array_row, fields_are, from_names, from_nodes, items_are, object_row, operand_at}

abbrev Answer : Type 0
Answer = Fallible (Option Operand) EvalError

-- the parts at these children, in order
unfoldable pub parts_at : Sheet Condition → Bytes → List ℕ → lazy.Frames → Bool → List ℕ → Result (Resolved (Unit {0}))
unfolding operand tree value_node
parts_at sheet s t fs named [] = ok (present tt)
parts_at sheet s t fs named (k ∷ ks) = operand sheet fs (tree s t (value_node named k)) >>= λ r. parts_at sheet s t fs named ks >>= λ rs. ok (both (λ _ _. tt) r rs)

-- no child nests deeper
unfoldable pub Shallow : Bytes → List ℕ → Bool → ℕ → List ℕ → Type 0
unfolding depth tree value_node
Shallow s t named l [] = Unit {0}
Shallow s t named l (k ∷ ks) = (depth (tree s t (value_node named k)) ≤ l) × Shallow s t named l ks

abbrev pub holder : ℕ → ℕ → Bool → Operand
holder n d true = record { node = n; depth = d; kind = kinds.Named }
holder n d false = record { node = n; depth = d; kind = kinds.Listed }

module _ (sheet : Sheet Condition) (s : Bytes) (t : List ℕ) (fs : lazy.Frames) where
  items_parts : (ks : List ℕ) → operand_in sheet fs (from_nodes (tree s t) ks) ≡ parts_at sheet s t fs false ks
  unfolding operand_in from_nodes parts_at value_node
  items_parts [] = refl
  items_parts (k ∷ ks) = rw (items_parts ks)

  names_parts : (ks : List ℕ) → operand_of sheet fs (from_names s t (tree s t) ks) ≡ parts_at sheet s t fs true ks
  unfolding operand_of from_names parts_at value_node
  names_parts [] = refl
  names_parts (k ∷ ks) = rw (names_parts ks)

  pub whole_parts : (named : Bool) (n : ℕ) → Holds s t named n →
      operand sheet fs (tree s t n) ≡
      (parts_at sheet s t fs named (kids s t n named) >>= λ r. ok (same (λ _. stored.operand_of s t (holder n (length fs) named)) r))
  unfolding operand meant
  whole_parts false n h =
      ap (operand sheet fs) (array_row h).value ∙
      ap (λ (x : Result (Resolved (Unit {0}))). x >>= λ r. ok (same (λ _. lazy.listed (length fs) (items_of s t n)) r))
      (ap (operand_in sheet fs) (items_are s t n) ∙ items_parts (kids s t n false))
  whole_parts true n h =
      ap (operand sheet fs) (object_row h).value ∙
      ap (λ (x : Result (Resolved (Unit {0}))). x >>= λ r. ok (same (λ _. lazy.named (length fs) (fields_of s t n)) r))
      (ap (operand_of sheet fs) (fields_are s t n) ∙ names_parts (kids s t n true))

-- a whole nests one deeper than its parts
module _ (s : Bytes) (t : List ℕ) where
  items_shallow : (l : ℕ) (ks : List ℕ) → depth_in (from_nodes (tree s t) ks) ≤ l → Shallow s t false l ks
  unfolding Shallow from_nodes depth_in value_node
  items_shallow l [] h = tt
  items_shallow l (k ∷ ks) h = (omega arith, items_shallow l ks (omega arith))

  names_shallow : (l : ℕ) (ks : List ℕ) → depth_of (from_names s t (tree s t) ks) ≤ l → Shallow s t true l ks
  unfolding Shallow from_names depth_of value_node
  names_shallow l [] h = tt
  names_shallow l (k ∷ ks) h = (omega arith, names_shallow l ks (omega arith))

  pub whole_shallow : (named : Bool) (n l : ℕ) → Holds s t named n → depth (tree s t n) ≤ l → (1 ≤ l) × Shallow s t named (l - 1) (kids s t n named)
  unfolding depth
  whole_shallow false n l h d =
      let e : depth (tree s t n) ≡ 1 + depth_in (from_nodes (tree s t) (kids s t n false)) = ap depth (array_row h).value ∙ ap (λ (vs : Values). 1 + depth_in vs) (items_are s t n) in
      (omega arith, items_shallow (l - 1) (kids s t n false) (omega arith))
  whole_shallow true n l h d =
      let e : depth (tree s t n) ≡ 1 + depth_of (from_names s t (tree s t) (kids s t n true)) = ap depth (object_row h).value ∙
      ap (λ (ms : Members). 1 + depth_of ms) (fields_are s t n) in
      (omega arith, names_shallow (l - 1) (kids s t n true) (omega arith))

-- what was seen so far
abbrev pub so_far : Bool → Names → Resolved (Unit {0})
so_far true ns = present tt
so_far false ns = missing ns

abbrev pub join : Resolved (Unit {0}) → Resolved (Unit {0}) → Resolved (Unit {0})
join a b = both (λ _ _. tt) a b

join_assoc : (a b c : Resolved (Unit {0})) → join (join a b) c ≡ join a (join b c)
join_assoc (present x) (present y) (present z) = refl
join_assoc (present x) (present y) (missing ns) = refl
join_assoc (present x) (missing ns) (present z) = refl
join_assoc (present x) (missing ms) (missing ns) = refl
join_assoc (missing ns) (present y) (present z) = refl
join_assoc (missing ms) (present y) (missing ns) = refl
join_assoc (missing ms) (missing ns) (present z) = refl
join_assoc (missing ls) (missing ms) (missing ns) = ap (λ (x : Names). missing x) (append_assoc ls ms ns)

join_none : (a : Resolved (Unit {0})) → join a (present tt) ≡ a
join_none (present tt) = refl
join_none (missing ns) = refl

join_first : (a : Resolved (Unit {0})) → join (present tt) a ≡ a
join_first (present x) = refl
join_first (missing ns) = refl

sofar_step : (a b : Bool) (ns ms : Names) → (a ≡ true → ns ≡ []) → (b ≡ true → ms ≡ []) → so_far (a && b) (ns ++ ms) ≡ join (so_far a ns) (so_far b ms)
sofar_step true true ns ms p q = refl
sofar_step true false ns ms p q = rw (p refl)
sofar_step false true ns ms p q = rw (q refl, append-nil)
sofar_step false false ns ms p q = refl

none_step : (a b : Bool) (ns ms : Names) → (a ≡ true → ns ≡ []) → (b ≡ true → ms ≡ []) → (a && b) ≡ true → ns ++ ms ≡ []
none_step true true ns ms p q e = rw (p refl, q refl)
none_step true false ns ms p q e = absurd (impossible (cc))
none_step false b ns ms p q e = absurd (impossible (cc))

-- what one part was seen as
abbrev pub as_seen : Resolved lazy.Operand → Resolved (Unit {0})
as_seen r = same (λ _. tt) r

seen_both : (r : Resolved lazy.Operand) (rs : Resolved (Unit {0})) → both (λ _ _. tt) r rs ≡ join (as_seen r) rs
seen_both (present o) (present x) = refl
seen_both (present o) (missing ns) = refl
seen_both (missing ms) (present x) = refl
seen_both (missing ms) (missing ns) = refl

record SeenAs (quiet : Bool) (s : Bytes) (w w' : List ℕ) (b : Bool) (m : Result (Resolved lazy.Operand)) : Type 0 where
  names : Names
  none : b ≡ true → names ≡ []
  left : Left s w w' (heard quiet names)
  is : Resolved lazy.Operand
  means : m ≡ ok is
  as' : as_seen is ≡ so_far b names

module _ {quiet : Bool} {s : Bytes} {w w' : List ℕ} {r : Answer} {m : Result (Resolved lazy.Operand)} (a : ResolvedAs quiet s w w' r m) where
  part_seen : (x : Option Operand) → r ≡ Ok x → SeenAs quiet s w w' (is_some x) m
  part_seen x e = go x (subst (λ (y : Answer). resolved_of s (table w) a.names y ≡ m) e a.means) (subst (Heard quiet s (table w) a.names a.met) e a.hears)
    where
      go : (x : Option Operand) → resolved_of s (table w) a.names (Ok x) ≡ m → Heard quiet s (table w) a.names a.met (Ok x) → SeenAs quiet s w w' (is_some x) m
      go (Some o) p h =
          record {
            names = [];
            none = λ _. refl;
            left = subst (Left s w w') (h.1 ∙ sym (heard_none quiet)) a.left;
            is = present (stored.operand_of s (table w) o);
            means = sym p;
            as' = refl;
          }
      go None p h =
          record {
            names = a.names;
            none = λ f. absurd (impossible (cc));
            left = subst (Left s w w') h a.left;
            is = missing a.names;
            means = sym p;
            as' = refl;
          }

  -- a refusal of a part is that of the whole
  part_refused :
      {w₀ : List ℕ} {ns : Names} (y : EvalError) → r ≡ Err y → Left s w₀ w ns → {M : Result (Resolved lazy.Operand)} →
      ((f : Refusal) → m ≡ refused f → M ≡ refused f) → ResolvedAs quiet s w₀ w' (Err y) M
  part_refused {w₀} {ns} y e l {M} k =
      go y (subst (λ (x : Answer). resolved_of s (table w) a.names x ≡ m) e a.means) (subst (Heard quiet s (table w) a.names a.met) e a.hears)
    where
      go : (x : EvalError) → resolved_of s (table w) a.names (Err x) ≡ m → Heard quiet s (table w) a.names a.met (Err x) → ResolvedAs quiet s w₀ w' (Err x) M
      go (errors.UnknownExpression n) p h =
          record {
            names = [];
            met = ns ++ a.met;
            means = sym (k _ (sym p ∙ rw l.rows));
            left = left_then l a.left;
            hears = rw l.rows at h;
          }
      go errors.NoId p h = record { names = []; met = ns ++ a.met; means = sym (k _ (sym p)); left = left_then l a.left; hears = tt }

-- the loop over parts: w₀ the words at entry, w now
pub record Gathering (quiet : Bool) (s : Bytes) (w₀ : List ℕ) (sheet : Sheet Condition) (fs : lazy.Frames) (n d : ℕ) (named : Bool)
    (l : ℕ) (m : Result (Resolved lazy.Operand)) (w : List ℕ) (whole : Bool) (c : Children) : Type 0 where
  pub names : Names
  pub none : whole ≡ true → names ≡ []
  pub left : Left s w₀ w (heard quiet names)
  pub walk : ChildrenAt s (table w₀) c
  pub over : c.named ≡ named
  pub shallow : Shallow s (table w₀) named l (children_of (table w₀) c)
  pub rest : m ≡
      (parts_at sheet s (table w₀) fs named (children_of (table w₀) c) >>= λ rs. ok
      (same (λ _. stored.operand_of s (table w₀) (holder n d named)) (join (so_far whole names) rs)))

finish :
    (quiet : Bool) {s : Bytes} {w₀ w : List ℕ} (b y : Bool) (ns : Names) (n d : ℕ) → Holds s (table w₀) y n → d ≤ 32 → (b ≡ true → ns ≡ []) →
    Left s w₀ w (heard quiet ns) →
    ResolvedAs quiet s w₀ w (Ok (gathered_of n d y b)) (ok (same (λ _. stored.operand_of s (table w₀) (holder n d y)) (so_far b ns)))
unfolding Fits
finish quiet true true ns n d h few p l =
    record {
      names = ns;
      met = heard quiet ns;
      means = refl;
      left = l;
      hears = (operand_at h.node few h, ap (heard quiet) (p refl) ∙ heard_none quiet);
    }
finish quiet true false ns n d h few p l =
    record {
      names = ns;
      met = heard quiet ns;
      means = refl;
      left = l;
      hears = (operand_at h.node few h, ap (heard quiet) (p refl) ∙ heard_none quiet);
    }
finish quiet false true ns n d h few p l = record { names = ns; met = heard quiet ns; means = refl; left = l; hears = refl }
finish quiet false false ns n d h few p l = record { names = ns; met = heard quiet ns; means = refl; left = l; hears = refl }

bind_through : {A B : Type 0} (x : Result A) (f g : A → Result B) → ((a : A) → f a ≡ g a) → (x >>= f) ≡ (x >>= g)
bind_through (ok a) f g h = h a
bind_through (refused r) f g h = refl

module _ {quiet : Bool} {s : Bytes} {w₀ : List ℕ} {sheet : Sheet Condition} {fs : lazy.Frames} {n d : ℕ} {named : Bool} {l : ℕ}
    {m : Result (Resolved lazy.Operand)} {w : List ℕ} {whole : Bool} {c : Children}
    (g : Gathering quiet s w₀ sheet fs n d named l m w whole c) where
  -- no part is left
  pub gather_end :
      Holds s (table w₀) named n → d ≤ 32 → children_of (table w₀) c ≡ [] → {r : Option Operand} → r ≡ gathered_of n d named whole →
      ResolvedAs quiet s w₀ w (Ok r) m
  unfolding parts_at
  gather_end h few e q = rw (q, g.rest, e, join_none (so_far whole g.names)) (finish quiet whole named g.names n d h few g.none g.left)

  -- one part more
  module _ {k : ℕ} {c' : Children} (x : Given s (table w₀) c k c') where
    abbrev v : Value
    v = tree s (table w₀) (value_node named k)

    pub this_child : ChildAt s (table w₀) named k
    this_child = subst (λ (b : Bool). ChildAt s (table w₀) b k) g.over x.child

    deeper : (depth v ≤ l) × Shallow s (table w₀) named l (children_of (table w₀) c')
    unfolding Shallow
    deeper = subst (Shallow s (table w₀) named l) x.children g.shallow

    pub this_shallow : depth (tree s (table w₀) (value_node named k)) ≤ l
    this_shallow = deeper.0

    turn : m ≡
        (operand sheet fs v >>= λ r. parts_at sheet s (table w₀) fs named (children_of (table w₀) c') >>= λ rs. ok
        (same (λ _. stored.operand_of s (table w₀) (holder n d named)) (join (so_far whole g.names) (both (λ _ _. tt) r rs))))
    unfolding parts_at
    turn = g.rest ∙ rw x.children (push (operand sheet fs v) (parts_at sheet s (table w₀) fs named (children_of (table w₀) c')))
      where
        push : (p : Result (Resolved lazy.Operand)) (q : Result (Resolved (Unit {0}))) →
            (p >>= (λ r. q >>= λ rs. ok (both (λ _ _. tt) r rs)) >>= λ rs. ok
            (same (λ _. stored.operand_of s (table w₀) (holder n d named)) (join (so_far whole g.names) rs))) ≡
            (p >>= λ r. q >>= λ rs. ok
            (same (λ _. stored.operand_of s (table w₀) (holder n d named)) (join (so_far whole g.names) (both (λ _ _. tt) r rs))))
        push (ok r) (ok rs) = refl
        push (ok r) (refused f) = refl
        push (refused f) q = refl

    module _ {w' : List ℕ} {r : Answer} (a : ResolvedAs quiet s w w' r (operand sheet fs (tree s (table w₀) (value_node named k)))) where
      pub gather_refused : (y : EvalError) → r ≡ Err y → ResolvedAs quiet s w₀ w' (Err y) m
      gather_refused y e = part_refused a y e g.left (λ f q. turn ∙ rw q)

      pub gather_on : (y : Option Operand) → r ≡ Ok y → {whole' : Bool} → whole' ≡ (whole && is_some y) → Gathering quiet s w₀ sheet fs n d named l m w' whole' c'
      gather_on y e p =
          let z = part_seen a y e in
          rw p record {
            names = g.names ++ z.names;
            none = none_step whole (is_some y) g.names z.names g.none z.none;
            left = subst (Left s w₀ w') (sym (heard_then quiet g.names z.names)) (left_then g.left z.left);
            walk = x.walk;
            over = x.same ∙ g.over;
            shallow = deeper.1;
            rest =
                turn ∙
                ap
                (λ (v : Result (Resolved lazy.Operand)). v >>= λ r₁. parts_at sheet s (table w₀) fs named (children_of (table w₀) c') >>=
                λ rs. ok
                (same (λ _. stored.operand_of s (table w₀) (holder n d named))
                (join (so_far whole g.names) (both (λ _ _. tt) r₁ rs)))) z.means ∙
                (bind_through (parts_at sheet s (table w₀) fs named (children_of (table w₀) c')) _ _
                (λ rs. ap (λ (y : Resolved (Unit {0})). ok (same (λ _. stored.operand_of s (table w₀) (holder n d named)) y))
                (ap (join (so_far whole g.names))
                (seen_both z.is rs ∙ ap (λ (y : Resolved (Unit {0})). join y rs) z.as') ∙
                sym (join_assoc (so_far whole g.names) (so_far (is_some y) z.names) rs) ∙
                ap (λ (y : Resolved (Unit {0})). join y rs)
                (sym (sofar_step whole (is_some y) g.names z.names g.none z.none)))));
          }

pub gather_begin : (quiet : Bool) (s : Bytes) (w : List ℕ) (sheet : Sheet Condition) (fs : lazy.Frames) (n d : ℕ) (named : Bool) (l : ℕ) →
    Holds s (table w) named n → Linked s (table w) → length fs ≡ d → depth (tree s (table w) n) ≤ l → {c : Children} →
    c ≡ begun (table w) n named → Gathering quiet s w sheet fs n d named (l - 1) (operand sheet fs (tree s (table w) n)) w true c
gather_begin quiet s w sheet fs n d named l h k e sh q = record {
  names = [];
  none = λ _. refl;
  left = subst (Left s w w) (sym (heard_none quiet)) (left_none s w);
  walk = walk_begins named h k q;
  over = walk_named named h k q;
  shallow = rw (walk_kids named h k q) (whole_shallow s (table w) named n l h sh).1;
  rest =
      whole_parts sheet s (table w) fs named n h ∙
      rw (walk_kids named h k q, e)
      (bind_through (parts_at sheet s (table w) fs named (kids s (table w) n named)) _ _
      (λ rs. ap (λ (y : Resolved (Unit {0})). ok (same (λ _. stored.operand_of s (table w) (holder n d named)) y))
      (sym (join_first rs))));
}
