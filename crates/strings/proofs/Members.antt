-- A search among members, turn by turn.
-- Assumes nothing.
use mathlib.Core.Path.{◌≡◌, refl, sym, ◌∙◌, ap, subst}
use mathlib.Core.List.{List}
use Rattle.std.specs.Prelude.{Option, Some, None}
use mathlib.Core.Bool.{Bool, true, false}
use Prim.Native.Nat.{ℕ, ◌+◌, ◌*◌, ◌≤◌, ◌<◌, Ordering}
use native.Mathlib.Omega.{arith}
use lib.ListN.{length}
use Rattle.json_text.proofs.Laws.{order_bytes_eq, same_bytes_refl, same_bytes_true}
use Rattle.json_text.proofs.Sorted.{same_order}
use Rattle.json_text.proofs.Walk.{MoreMembers, find_done, find_here, find_on, inside, members_more, values_more}
use Rattle.strings.proofs.Nodes.{leads_while}
use Rattle.strings.specs.Leads.{Leads, of_array, of_object}
use Rattle.strings.specs.Answers.{FoundIn, FoundTold, found_of}
use Rattle.std.specs.declared.cmp.Ordering.{Ordering as Ordered}
use Rattle.std.specs.declared.cmp.Ordering.TheVariants as orders
use Rattle.std.specs.Ordering.{is_eq}
use Rattle.json_text.specs.Orders.{order_of}
use Rattle.json_text.specs.Bytes.{Bytes, find, order_bytes, same_bytes}
use Rattle.json_text.specs.Cursor.{OnText}
use Rattle.json_text.specs.Held.{AreMembers, AreNodes, HasMembers}
use Rattle.json_text.specs.Json.{Value, entries}
use Rattle.json_text.specs.Spans.{text_at}
use Rattle.json_text.specs.Table.{after_at, end_at, members_at, start_at}

-- equal texts, by their order
apart : (s t : Bytes) (o : Ordering) → order_bytes s t ≡ o → (o ≡ Ordering.eq → ⊥) → false ≡ same_bytes s t
apart s t o e g = go (same_bytes s t) refl
  where
    go : (b : Bool) → same_bytes s t ≡ b → false ≡ same_bytes s t
    go true q = absurd (g (sym e ∙ ap (order_bytes s) (sym (same_bytes_true s t q)) ∙ same_order s))
    go false q = sym q

pub same_is_eq : (s t : Bytes) (o : Ordered) → order_bytes s t ≡ order_of o → is_eq o ≡ same_bytes s t
same_is_eq s t orders.Less e = apart s t _ e (λ q. cc)
same_is_eq s t orders.Equal e = sym (ap (same_bytes s) (sym (order_bytes_eq s t e)) ∙ same_bytes_refl s)
same_is_eq s t orders.Greater e = apart s t _ e (λ q. cc)

-- the rows of members lead from name to name, and those of an array from element to element
module _ {s : Bytes} {w : List ℕ} {left k e : ℕ} where
  pub members_lead : AreMembers s w left k e → Leads w of_object e k
  members_lead =
      leads_while w of_object e (λ (i : ℕ). AreMembers s w left i e)
      (λ i p h.
      let m = members_more s w p h in (
        record { room = inside s w m.here; few = omega (arith, p.most, m.past, m.upto); past = omega (arith, m.past) },
        m.others,
      ))

  pub elements_lead : AreNodes s w left k e → Leads w of_array e k
  elements_lead =
      leads_while w of_array e (λ (i : ℕ). AreNodes s w left i e)
      (λ i p h.
      let m = values_more s w p h in (
        record { room = inside s w m.here; few = omega (arith, p.most, m.past, m.upto); past = m.past },
        m.others,
      ))

pub record Searching (s : Bytes) (w : List ℕ) (name e : ℕ) (whole : Option Value) (k : ℕ) : Type 0 where
  pub members : HasMembers s w k e
  pub text : OnText s name 0
  pub rest : whole ≡ find (text_at s name) (entries (members_at s w k e))

module _ {s : Bytes} {w : List ℕ} {name e : ℕ} {whole : Option Value} {k : ℕ} (l : Searching s w name e whole k) where
  pub ended : e ≤ k → FoundTold s w whole None
  unfolding found_of FoundIn
  ended h = record { answers = l.rest ∙ find_done s w (text_at s name) l.members.members h; bounds = tt }

  module _ (h : k < e) where
    m : MoreMembers s w l.members.left k e
    m = members_more s w l.members.members h

    pub name_room : (3 * k + 3 ≤ length w) × (k < 4096)
    name_room = (omega (arith, inside s w m.here), omega (arith, l.members.members.most))

    pub value_room : (3 * (k + 1) + 3 ≤ length w) × (k + 1 < 4096)
    value_room = (inside s w m.here, omega (arith, l.members.members.most, m.past, m.upto))

    pub on_name : (a : ℕ) → a ≡ start_at w k → OnText s a 0
    on_name a q = subst (λ (x : ℕ). OnText s x 0) (sym q) (record { stop = end_at w k; text = m.name; few = omega arith })

    pub falls : (k' : ℕ) → k' ≡ after_at w (k + 1) → (k < k') × (k' ≤ e)
    falls k' q = (omega (arith, m.past), omega (arith, m.upto))

    pub here : (a : ℕ) → a ≡ start_at w k → true ≡ same_bytes (text_at s name) (text_at s a) → FoundTold s w whole (Some (k + 1))
    unfolding found_of FoundIn
    here a q e =
        record {
          answers = l.rest ∙
              find_here s w (text_at s name) l.members.members h
              (ap (λ (x : ℕ). same_bytes (text_at s name) (text_at s x)) (sym q) ∙ sym e);
          bounds = record { left = l.members.left; is_node = m.here };
        }

    pub on : (a : ℕ) → a ≡ start_at w k → false ≡ same_bytes (text_at s name) (text_at s a) → (k' : ℕ) → k' ≡ after_at w (k + 1) → Searching s w name e whole k'
    on a q f k' p =
        subst (Searching s w name e whole) (sym p)
        (record {
          members = record { left = l.members.left; members = m.others };
          text = l.text;
          rest = l.rest ∙
              find_on s w (text_at s name) l.members.members h
              (ap (λ (x : ℕ). same_bytes (text_at s name) (text_at s x)) (sym q) ∙ sym f);
        })
