-- The demand's premises can be met: the paper's two example sheets, and a pair for each number that the old line can have, by computation. Each with
-- the steps that count for the old decision.
-- Assumes nothing.
use mathlib.Core.Bool.{Bool, false, true, ◌&&◌}
use mathlib.Core.List.{List, map, [], ◌++◌, ◌∷◌}
use mathlib.Core.Logic.{inl, inr, ◌≢◌}
use Rattle.std.specs.Prelude.{Option, None, Some}
use mathlib.Core.Path.{ap, refl, sym, ◌∙◌, ◌≡◌}
use Prim.Native.Nat.{ℕ}
use Prim.Native.String.{String}
use native.Mathlib.Omega.{arith}
use borrow.Author.Tests.{eqb-false}
use lib.Dec.{eqb}
use Rattle.answers.specs.Demand.{Kept, Premises, counts_for, guard, is_tried, rule}
use Rattle.answers.specs.Entry.{Reply, decide}
use Rattle.json_text.specs.Bytes.{Bytes, ascii}
use Rattle.json_text.specs.Json.{Members, array, cons, empty, member, nil, number, text}
use Rattle.json_text.specs.Refusal.{ok}
use Rattle.members.specs.Condition.{Condition, Form, Mode, exists, literal, pair, quantified}
use Rattle.members.specs.Outcome.{Effect, Outcome, moves, stays}
use Rattle.members.specs.Rule.{Rule}
use Rattle.members.specs.Sheet.{Sheet, read_sheet}
use Rattle.semantics.specs.Expression.{gives}
use Rattle.semantics.specs.Readings.{all_known, clean, guard_readings, rule_readings, sheet_readings}
use Rattle.semantics.specs.Semantics.{kernel}
use Rattle.answers.proofs.Each.{Each, done, each_is, one}
use Rattle.answers.proofs.Examples.{erased, sheet}

-- Rules with the arguments of an old and a new sheet, each as written and as read; the numbers and lines that the two give, and which of two rules and
-- two guards are tried and count for the old one.
pub record Pair : Type 0 where
  pub rules_text : String
  pub rules : List (Rule Condition)
  pub outcomes_text : String
  pub outcomes : List (Outcome Condition)
  pub old_text : String
  pub old_args : Members
  pub new_text : String
  pub new_args : Members
  pub old_number : ℕ
  pub old_line : String
  pub new_number : ℕ
  pub new_line : String
  pub counted : List Bool

-- the sheet with such arguments, as written and as read
abbrev pub written : Pair → String → Bytes
written p args =
    ascii "{\"entity\":\"pack\",\"version\":1,\"args\":" ++
    ascii args ++
    ascii ",\"fields\":{},\"old_fields\":{},\"to_state\":\"in\",\"state\":\"in\",\"states\":[\"in\",\"out\"],\"preconditions\":" ++
    ascii p.rules_text ++
    ascii ",\"invariants\":[],\"outcomes\":" ++
    ascii p.outcomes_text ++
    ascii "}"

abbrev pub read : Pair → Members → Sheet Condition
read p args =
    record {
      id = None;
      entity = ascii "pack";
      version = ascii "1";
      args = args;
      fields = empty;
      old_fields = empty;
      from_state = None;
      to_state = ascii "in";
      state = Some (ascii "in");
      states = ascii "in" ∷ ascii "out" ∷ [];
      condition = None;
      preconditions = p.rules;
      invariants = [];
      outcomes = p.outcomes;
    }

abbrev line_reply : ℕ → String → Reply
line_reply n line = record { number = n; line = Some (ascii line) }

abbrev pub counted_for : Sheet Condition → List Bool
counted_for s = map (λ k. is_tried s k && counts_for s k) (rule 0 ∷ rule 1 ∷ guard 0 ∷ guard 1 ∷ [])

abbrev pub old_bytes : Pair → Bytes
old_bytes p = written p p.old_text

abbrev pub new_bytes : Pair → Bytes
new_bytes p = written p p.new_text

abbrev pub old_sheet : Pair → Sheet Condition
old_sheet p = read p p.old_args

abbrev pub new_sheet : Pair → Sheet Condition
new_sheet p = read p p.new_args

-- the call with which a sheet is decided
abbrev decided : Bytes → Reply
decided s = decide s 16384 65536

pub record Met (p : Pair) : Type 0 where
  pub was : decided (old_bytes p) ≡ line_reply p.old_number p.old_line
  pub now : decided (new_bytes p) ≡ line_reply p.new_number p.new_line
  pub premises : Premises (old_sheet p) (new_sheet p) (old_bytes p) (new_bytes p) 16384 16384 (decided (old_bytes p)) (decided (new_bytes p))
  pub counted : counted_for (old_sheet p) ≡ p.counted

-- a rule without name and message, an outcome for any state, and a condition
abbrev plain_rule : Condition → Rule Condition
plain_rule c = record { name = None; message = None; assert = c }

abbrev outcome : String → Option Condition → Effect → Outcome Condition
outcome n when effect = record { name = ascii n; when = when; in_state = None; wrong_state = false; effect = effect }

abbrev v_is_one : Condition
v_is_one = pair Form.eq (text (ascii "$args.v")) (number (ascii "1"))

-- the paper's two sheets
abbrev pub voltages : Pair
voltages =
    record {
      rules_text = "[]";
      rules = [];
      outcomes_text = "[{\"name\":\"scrap\",\"when\":{\"for_any\":{\"in\":\"$args.v\",\"as\":\"c\",\"that\":{\"lt\":[\"$c\",2.5]}}}},{\"name\":\"rebuild\"}]";
      outcomes =
          outcome "scrap"
          (Some (quantified Mode.any (text (ascii "$args.v")) (ascii "c") (pair Form.lt (text (ascii "$c")) (number (ascii "2.5"))))) stays
          ∷ outcome "rebuild" None stays ∷ [];
      old_text = "{\"v\":[3.61,3.58]}";
      old_args = member (ascii "v") (array (cons (number (ascii "3.61")) (cons (number (ascii "3.58")) nil))) empty;
      new_text = "{}";
      new_args = empty;
      old_number = 0;
      old_line = "(admitted 1 \"rebuild\")\n";
      new_number = 20;
      new_line = "(refused 20 0 \"scrap\" (names \"$args.v\"))\n";
      counted = false ∷ false ∷ true ∷ false ∷ [];
    }

-- what vanished stands after what settled, and what is under `exists` is as before
abbrev pub unread : Pair
unread =
    record {
      rules_text = "[]";
      rules = [];
      outcomes_text = "[{\"name\":\"n\",\"when\":{\"exists\":\"$args.w\"}},{\"name\":\"m\",\"when\":{\"eq\":[\"$args.v\",1]}}]";
      outcomes = outcome "n" (Some (exists (text (ascii "$args.w")))) stays ∷ outcome "m" (Some v_is_one) stays ∷ [];
      old_text = "{\"v\":1,\"w\":1}";
      old_args = member (ascii "v") (number (ascii "1")) (member (ascii "w") (number (ascii "1")) empty);
      new_text = "{\"w\":1}";
      new_args = member (ascii "w") (number (ascii "1")) empty;
      old_number = 0;
      old_line = "(admitted 0 \"n\")\n";
      new_number = 0;
      new_line = "(admitted 0 \"n\")\n";
      counted = false ∷ false ∷ true ∷ false ∷ [];
    }

-- 15 at the second rule; the first cannot be evaluated any more
abbrev pub later_rule : Pair
later_rule =
    record {
      rules_text = "[{\"assert\":{\"gt\":[\"$args.v\",0]}},{\"assert\":{\"eq\":[\"$args.v\",1]}}]";
      rules = plain_rule (pair Form.gt (text (ascii "$args.v")) (number (ascii "0"))) ∷ plain_rule v_is_one ∷ [];
      outcomes_text = "[{\"name\":\"n\",\"when\":true}]";
      outcomes = outcome "n" (Some (literal true)) stays ∷ [];
      old_text = "{\"v\":2}";
      old_args = member (ascii "v") (number (ascii "2")) empty;
      new_text = "{}";
      new_args = empty;
      old_number = 15;
      old_line = "(refused 15 1 () \"condition evaluated to false\")\n";
      new_number = 16;
      new_line = "(refused 16 0 () \"condition could not be evaluated\" (names \"$args.v\"))\n";
      counted = true ∷ true ∷ false ∷ false ∷ [];
    }

-- 16, and one name more
abbrev pub unknown_rule : Pair
unknown_rule =
    record {
      rules_text = "[{\"assert\":{\"eq\":[\"$args.v\",\"$args.w\"]}},{\"assert\":true}]";
      rules = plain_rule (pair Form.eq (text (ascii "$args.v")) (text (ascii "$args.w"))) ∷ plain_rule (literal true) ∷ [];
      outcomes_text = "[{\"name\":\"n\",\"when\":true}]";
      outcomes = outcome "n" (Some (literal true)) stays ∷ [];
      old_text = "{\"v\":1}";
      old_args = member (ascii "v") (number (ascii "1")) empty;
      new_text = "{}";
      new_args = empty;
      old_number = 16;
      old_line = "(refused 16 0 () \"condition could not be evaluated\" (names \"$args.w\"))\n";
      new_number = 16;
      new_line = "(refused 16 0 () \"condition could not be evaluated\" (names \"$args.v\" \"$args.w\"))\n";
      counted = true ∷ false ∷ false ∷ false ∷ [];
    }

-- 19, for which all that were tried count
abbrev pub none_left : Pair
none_left =
    record {
      rules_text = "[{\"assert\":true}]";
      rules = plain_rule (literal true) ∷ [];
      outcomes_text = "[{\"name\":\"n\",\"when\":{\"eq\":[\"$args.v\",1]}},{\"name\":\"m\",\"when\":false}]";
      outcomes = outcome "n" (Some v_is_one) stays ∷ outcome "m" (Some (literal false)) stays ∷ [];
      old_text = "{\"v\":2}";
      old_args = member (ascii "v") (number (ascii "2")) empty;
      new_text = "{}";
      new_args = empty;
      old_number = 19;
      old_line = "(refused 19)\n";
      new_number = 20;
      new_line = "(refused 20 0 \"n\" (names \"$args.v\"))\n";
      counted = true ∷ false ∷ true ∷ true ∷ [];
    }

-- 20, and one name more
abbrev pub unknown_guard : Pair
unknown_guard =
    record {
      rules_text = "[]";
      rules = [];
      outcomes_text = "[{\"name\":\"n\",\"when\":{\"eq\":[\"$args.v\",\"$args.w\"]}},{\"name\":\"m\",\"when\":true}]";
      outcomes = outcome "n" (Some (pair Form.eq (text (ascii "$args.v")) (text (ascii "$args.w")))) stays ∷ outcome "m" (Some (literal true)) stays ∷ [];
      old_text = "{\"v\":1}";
      old_args = member (ascii "v") (number (ascii "1")) empty;
      new_text = "{}";
      new_args = empty;
      old_number = 20;
      old_line = "(refused 20 0 \"n\" (names \"$args.w\"))\n";
      new_number = 20;
      new_line = "(refused 20 0 \"n\" (names \"$args.v\" \"$args.w\"))\n";
      counted = false ∷ false ∷ true ∷ false ∷ [];
    }

-- 21, settled by the outcome selected
abbrev pub wrong_state : Pair
wrong_state =
    record {
      rules_text = "[]";
      rules = [];
      outcomes_text = "[{\"name\":\"n\",\"when\":{\"eq\":[\"$args.v\",1]},\"effect\":{\"moves\":{\"to\":\"out\",\"from\":\"out\"}}},{\"name\":\"m\",\"when\":true}]";
      outcomes = outcome "n" (Some v_is_one) (moves (ascii "out") (ascii "out" ∷ [])) ∷ outcome "m" (Some (literal true)) stays ∷ [];
      old_text = "{\"v\":1}";
      old_args = member (ascii "v") (number (ascii "1")) empty;
      new_text = "{}";
      new_args = empty;
      old_number = 21;
      old_line = "(refused 21 \"in\")\n";
      new_number = 20;
      new_line = "(refused 20 0 \"n\" (names \"$args.v\"))\n";
      counted = false ∷ false ∷ true ∷ false ∷ [];
    }

-- 22, likewise
abbrev pub no_source : Pair
no_source =
    record {
      rules_text = "[]";
      rules = [];
      outcomes_text =
          "[{\"name\":\"n\",\"when\":{\"eq\":[\"$args.v\",1]},\"effect\":{\"moves\":{\"to\":\"a\",\"from\":\"b\"}}},{\"name\":\"m\",\"effect\":{\"moves\":{\"to\":\"a\",\"from\":\"in\"}}}]";
      outcomes = outcome "n" (Some v_is_one) (moves (ascii "a") (ascii "b" ∷ [])) ∷ outcome "m" None (moves (ascii "a") (ascii "in" ∷ [])) ∷ [];
      old_text = "{\"v\":1}";
      old_args = member (ascii "v") (number (ascii "1")) empty;
      new_text = "{}";
      new_args = empty;
      old_number = 22;
      old_line = "(refused 22 0 \"n\" \"in\" (from \"b\"))\n";
      new_number = 20;
      new_line = "(refused 20 0 \"n\" (names \"$args.v\"))\n";
      counted = false ∷ false ∷ true ∷ false ∷ [];
    }

abbrev pub pairs : List Pair
pairs = voltages ∷ unread ∷ later_rule ∷ unknown_rule ∷ none_left ∷ unknown_guard ∷ wrong_state ∷ no_source ∷ []

-- from what the checker computes of a pair
meets :
    (p : Pair) →
    decided (old_bytes p) ≡ line_reply p.old_number p.old_line →
    decided (new_bytes p) ≡ line_reply p.new_number p.new_line →
    read_sheet (old_bytes p) ≡ ok (old_sheet p) →
    read_sheet (new_bytes p) ≡ ok (new_sheet p) →
    eqb p.old_number 23 ≡ false →
    eqb p.new_number 23 ≡ false →
    clean kernel (old_sheet p) ≡ true →
    clean kernel (new_sheet p) ≡ true →
    counted_for (old_sheet p) ≡ p.counted →
    Each (Kept (old_sheet p) (new_sheet p)) (sheet_readings (old_sheet p)) →
    Met p
meets p was now reads reads_new fits fits_new is_clean is_clean_new counted kept =
    record {
      was = was;
      now = now;
      premises =
          record {
            accepted = record { enough_work = omega arith; reads = reads; enough_output = fitted _ was fits };
            accepted_again = record { enough_work = omega arith; reads = reads_new; enough_output = fitted _ now fits_new };
            comparable =
                record {
                  same_rules = record { rules = refl; outcomes = refl; state = refl; states = refl };
                  is_clean = is_clean;
                  is_clean_again = is_clean_new;
                  old_value_or_nothing = each_is kept;
                };
          };
      counted = counted;
    }
  where
    fitted : (r : Reply) {n : ℕ} {line : Option Bytes} → r ≡ record { number = n; line = line } → eqb n 23 ≡ false → r.number ≢ 23
    fitted r {n} e f q = eqb-false n 23 f (ap (λ (x : Reply). x.number) (sym e) ∙ q)

pub pairs_met : Each Met pairs
unfolding decide read_sheet all_known rule_readings guard_readings gives counts_for is_tried
pairs_met =
    one
    (meets voltages refl refl refl refl refl refl refl refl refl (one (inr (refl, refl)) done))
    (one
    (meets unread refl refl refl refl refl refl refl refl refl (one (inl refl) (one (inr (refl, refl)) done)))
    (one
    (meets later_rule refl refl refl refl refl refl refl refl refl (one (inr (refl, refl)) (one (inr (refl, refl)) done)))
    (one
    (meets unknown_rule refl refl refl refl refl refl refl refl refl (one (inr (refl, refl)) (one (inr (refl, refl)) done)))
    (one
    (meets none_left refl refl refl refl refl refl refl refl refl (one (inr (refl, refl)) done))
    (one
    (meets unknown_guard refl refl refl refl refl refl refl refl refl (one (inr (refl, refl)) (one (inr (refl, refl)) done)))
    (one
    (meets wrong_state refl refl refl refl refl refl refl refl refl (one (inr (refl, refl)) done))
    (one
    (meets no_source refl refl refl refl refl refl refl refl refl (one (inr (refl, refl)) done))
    done)))))))

-- the first pair is the paper's
pub first_is_paper's : (old_bytes voltages ≡ sheet) × (new_bytes voltages ≡ erased)
first_is_paper's = (refl, refl)
