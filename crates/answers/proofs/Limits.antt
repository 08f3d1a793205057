-- Each limit met and passed by one, through whole calls, as one table and one theorem; and the ties. A text that is read but is no object gives 9.
-- Assumes nothing.
use mathlib.Core.List.{List, map, [], ◌++◌, ◌∷◌}
use Rattle.std.specs.Prelude.{Option, None, Some}
use mathlib.Core.Path.{refl, ◌≡◌}
use Prim.Native.Nat.{ℕ, suc, zero}
use lib.ListN.{replicate}
use Rattle.answers.proofs.Examples.{sheet}
use Rattle.answers.specs.Entry.{Reply, decide}
use Rattle.json_text.specs.Bytes.{Bytes, ascii}

pub record Case : Type 0 where
  pub text : Bytes
  pub work : ℕ
  pub output : ℕ
  pub number : ℕ

abbrev pub reply_of : Case → Reply
reply_of c = decide c.text c.work c.output

-- the first row answers with a line; the others write nothing
abbrev pub line_of : ℕ → Option Bytes
line_of zero = Some (ascii "(admitted 1 \"rebuild\")\n")
line_of (suc n) = None

abbrev pub expected : Case → Reply
expected c = record { number = c.number; line = line_of c.number }

-- so many zeros, each after a comma
abbrev pub zeros : ℕ → Bytes
zeros zero = []
zeros (suc n) = 44 ∷ 48 ∷ zeros n

-- a text read with room enough
abbrev pub gives : Bytes → ℕ → Case
gives s n = record { text = s; work = 16384; output = 65536; number = n }

abbrev pub cases : List Case
cases =
    -- 1: 16,384 words; 23: the line, 23 bytes long, exactly fills the output
    record { text = sheet; work = 16384; output = 23; number = 0 } ∷
    record { text = sheet; work = 16383; output = 23; number = 1 } ∷
    record { text = sheet; work = 16384; output = 22; number = 23 } ∷
    -- 2 before 3: 32,768 bytes
    gives (replicate 32767 32 ++ ascii "1") 9 ∷
    gives (replicate 32768 32 ++ ascii "1") 2 ∷
    gives (replicate 32769 255) 2 ∷
    gives (replicate 32768 255) 3 ∷
    -- 5: 64 brackets
    gives (replicate 64 91 ++ replicate 64 93) 9 ∷
    gives (replicate 65 91 ++ replicate 65 93) 5 ∷
    gives (replicate 64 91 ++ ascii "1[") 4 ∷
    -- 6: 255 bytes in a number
    gives (replicate 255 49) 9 ∷
    gives (replicate 256 49) 6 ∷
    gives (replicate 255 49 ++ ascii ".") 6 ∷
    gives (replicate 255 49 ++ ascii "x") 4 ∷
    gives (replicate 254 49 ++ ascii "e+") 6 ∷
    gives (replicate 254 49 ++ ascii "ex") 4 ∷
    gives (ascii "0" ++ replicate 300 49) 4 ∷
    -- 7: 4,096 nodes
    gives (ascii "[0" ++ zeros 4094 ++ ascii "]") 9 ∷
    gives (ascii "[0" ++ zeros 4095 ++ ascii "]") 7 ∷
    gives (ascii "[0" ++ zeros 4094 ++ ascii ",tx") 7 ∷
    gives (ascii "[0" ++ zeros 4094 ++ ascii ",x") 4 ∷
    -- 5 before 7 at bracket 65 that is node 4,097; 7 before 8 at a repeated name that is node 4,097
    gives (ascii "[0" ++ zeros 4031 ++ ascii "," ++ replicate 64 91) 5 ∷
    gives (ascii "{\"a\":[0" ++ zeros 4092 ++ ascii "],\"a\"") 7 ∷
    -- 8 needs the whole name, by decoded bytes
    gives (ascii "{\"a\":1,\"\\u0061\"") 8 ∷
    gives (ascii "{\"a\":1,\"a") 4 ∷
    gives (ascii "{\"a\":1,\"a\\ud800\":1}") 4 ∷
    gives (ascii "{\"a\":1 \"a\":2}") 4 ∷
    []

pub limits : map reply_of cases ≡ map expected cases
unfolding decide
limits = refl
