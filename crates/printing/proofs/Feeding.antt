-- An input that is read chunk by chunk gets the answers to its lines, however it is cut.
-- Assumes nothing.
use mathlib.Core.Bool.{Bool, false, true}
use mathlib.Core.List.{[], append_assoc, append-nil, ◌++◌}
use mathlib.Core.Path.{ap, refl, sym, ◌∙◌, ◌≡◌}
use Prim.Native.Nat.{suc, ◌<◌}
use native.Mathlib.Omega.{arith}
use lib.Dec.{leb}
use lib.ListN.{drop, length, length-take, take}
use lib.Seq.{take_all}
use borrow.Author.Tests.{leb-false, leb-true}
use Rattle.json_text.specs.Bytes.{Bytes}
use Rattle.printing.proofs.Splitting.{first_line, line_goes_on, long_alike, unended_part}
use Rattle.printing.specs.Lines.{answers, each, last_line, line_length, lines_from}
use Rattle.printing.specs.Printed.{intake}
use Rattle.printing.specs.Progress.{Fed, StandsFor, Unended, answer, cut, read, shorten, start}

pub stands_as_it_is : (s : Bytes) → StandsFor s [] s
stands_as_it_is s = record { always = λ rest. refl }

pub stands_then : {a p b q c : Bytes} → StandsFor a p b → StandsFor b q c → StandsFor a (p ++ q) c
stands_then {a} {p} {b} {q} {c} f g = record { always = λ rest. f.always rest ∙ ap (λ (x : Bytes). p ++ x) (g.always rest) ∙ sym (append_assoc p q (answers (c ++ rest))) }

pub stands_with : {a p b : Bytes} (chunk : Bytes) → StandsFor a p b → StandsFor (a ++ chunk) p (b ++ chunk)
stands_with {a} {p} {b} chunk f = record { always = λ rest. rw (append_assoc a chunk rest, append_assoc b chunk rest) (f.always (chunk ++ rest)) }

-- a line up to its LF
pub stands_line : (s : Bytes) → line_length s < length s → StandsFor s (intake (take (line_length s) s)) (drop (suc (line_length s)) s)
unfolding answers
stands_line s h = record { always = λ rest. ap each (first_line [] s rest h) }

-- the start of a line without LF
pub stands_cut : (s : Bytes) → Unended s → StandsFor s [] (cut s)
unfolding cut answers
stands_cut s h = go (leb (length s) 32769) refl
  where
    go : (b : Bool) → leb (length s) 32769 ≡ b → StandsFor s [] (take 32769 s)
    go true q = rw (take_all 32769 s (leb-true (length s) 32769 q)) (stands_as_it_is s)
    go false q =
        let g : 32769 < length s = leb-false (length s) 32769 q in
        record {
          always = λ rest.
              ap each (line_goes_on [] s rest h) ∙
              long_alike s (take 32769 s) rest (omega arith) (simp length-take (omega arith)) ∙
              sym (ap each (line_goes_on [] (take 32769 s) rest (unended_part 32769 s h)));
        }

-- feeding chunks one after another is feeding their concatenation
pub fed : {input handed kept : Bytes} → Fed input handed kept → StandsFor input handed kept
fed start = stands_as_it_is []
fed (read chunk f) = stands_with chunk (fed f)
fed (answer f g) = stands_then (fed f) g
fed (shorten {input} {handed} {kept} f h) = rw (← append-nil handed) (stands_then (fed f) (stands_cut kept h))

-- at the end the last line is answered, with or without LF: all that was handed on is the answers to the lines
pub all_answered : {input handed kept : Bytes} → Fed input handed kept → Unended kept → answers input ≡ handed ++ each (last_line kept)
unfolding answers lines_from
all_answered {input} {handed} {kept} f h = go ((fed f).always [])
  where
    go : answers (input ++ []) ≡ handed ++ answers (kept ++ []) → answers input ≡ handed ++ each (last_line kept)
    go e = rw (append-nil input) at e ∙ ap (λ (x : Bytes). handed ++ x) (ap each (line_goes_on [] kept [] h))
