-- RFC 8259's rules, over bytes. `Rule x s r` says that `s` begins with what the rule spells, `x`, and that `r` is the rest. The text as a whole is UTF-8 (`Utf8.utf8`).
-- Assumes nothing.
use Rattle.std.specs.Prelude.{Bool, false, not as bool_not, true, ◌&&◌, [], ◌++◌, ◌∷◌, ◌⊎◌, ◌≡◌, suc, ℕ, ◌*◌, ◌+◌, ◌-◌, ◌≤◌, eqb, leb, length}
use Rattle.std.specs.Prelude.{Some}
use Rattle.json_text.specs.Bytes.{Bytes, ascii, between}
use Rattle.json_text.specs.Json.{Members, Value, Values, array, bool, cons, empty, member, nil, null, number, object, text}
use Rattle.json_text.specs.Limits.{depth, max_bytes, max_depth, max_nodes, max_number, nodes, tidy}
use Rattle.json_text.specs.Scan.{is_space}
use Rattle.json_text.specs.Strings.{hex_digit, simple_escape}
use Rattle.json_text.specs.Utf8.{encode, scalar, utf8}

-- ws = *( %x20 / %x09 / %x0_a / %x0_d )
pub data Ws : Bytes → Bytes → Type 0 where
  no_space : {s : Bytes} → Ws s s
  space : {c : ℕ} {s r : Bytes} → is_space c ≡ true → Ws s r → Ws (c ∷ s) r

-- begin-array = ws %x5_b ws, and so on
pub data Structural (c : ℕ) : Bytes → Bytes → Type 0 where
  structural : {s t r : Bytes} → Ws s (c ∷ t) → Ws t r → Structural c s r

-- number = [ minus ] int [ frac ] [ exp ]
abbrev pub IsDigit : ℕ → Type 0
IsDigit c = between 48 57 c ≡ true

pub data Digits : Bytes → Bytes → Type 0 where
  no_digit : {s : Bytes} → Digits s s
  one_digit : {c : ℕ} {s r : Bytes} → IsDigit c → Digits s r → Digits (c ∷ s) r

pub data SomeDigits : Bytes → Bytes → Type 0 where
  some_digits : {c : ℕ} {s r : Bytes} → IsDigit c → Digits s r → SomeDigits (c ∷ s) r

pub data Int : Bytes → Bytes → Type 0 where
  zero : {c : ℕ} {r : Bytes} → c ≡ 48 → Int (c ∷ r) r
  nonzero : {c : ℕ} {s r : Bytes} → between 49 57 c ≡ true → Digits s r → Int (c ∷ s) r

pub data Frac : Bytes → Bytes → Type 0 where
  no_frac : {s : Bytes} → Frac s s
  frac : {c : ℕ} {s r : Bytes} → c ≡ 46 → SomeDigits s r → Frac (c ∷ s) r

pub data Sign : Bytes → Bytes → Type 0 where
  no_sign : {s : Bytes} → Sign s s
  sign : {c : ℕ} {s : Bytes} → (c ≡ 45) ⊎ (c ≡ 43) → Sign (c ∷ s) s

pub data Exp : Bytes → Bytes → Type 0 where
  no_exp : {s : Bytes} → Exp s s
  exp : {c : ℕ} {s t r : Bytes} → (c ≡ 69) ⊎ (c ≡ 101) → Sign s t → SomeDigits t r → Exp (c ∷ s) r

pub data Minus : Bytes → Bytes → Type 0 where
  no_minus : {s : Bytes} → Minus s s
  minus : {c : ℕ} {s : Bytes} → c ≡ 45 → Minus (c ∷ s) s

pub record Number (s r : Bytes) : Type 0 where
  pub after_minus : Bytes
  pub after_int : Bytes
  pub after_frac : Bytes
  pub has_minus : Minus s after_minus
  pub has_int : Int after_minus after_int
  pub has_frac : Frac after_int after_frac
  pub has_exp : Exp after_frac r

-- string = quotation-mark *char quotation-mark; a `\u` surrogate has its partner
pub data Hex : ℕ → ℕ → ℕ → Bytes → Bytes → Type 0 where
  no_hex : {u : ℕ} {s : Bytes} → Hex 0 u u s s
  one_hex : {n u v d c : ℕ} {s r : Bytes} → hex_digit c ≡ Some d → Hex n (u * 16 + d) v s r → Hex (suc n) u v (c ∷ s) r

pub data Escape : Bytes → Bytes → Bytes → Type 0 where
  simple : {c d : ℕ} {s : Bytes} → simple_escape c ≡ Some d → Escape (d ∷ []) (c ∷ s) s
  unit : {c u : ℕ} {x s r : Bytes} → c ≡ 117 → Hex 4 0 u s r → between 55296 57343 u ≡ false → x ≡ encode u → Escape x (c ∷ s) r
  pair : {c high low : ℕ} {x s t u r : Bytes} → c ≡ 117 → Hex 4 0 high s t → between 55296 56319 high ≡ true → t ≡ ascii "\\u" ++ u →
      Hex 4 0 low u r → between 56320 57343 low ≡ true → x ≡ encode (65536 + (high - 55296) * 1024 + (low - 56320)) → Escape x (c ∷ s) r

-- unescaped = %x20-21 / %x23-5B / %x5D-10FFFF
abbrev pub is_unescaped : ℕ → Bool
is_unescaped c = leb 32 c && (bool_not (eqb c 34) && bool_not (eqb c 92))

-- the characters up to the closing quotation mark
pub data Chars : Bytes → Bytes → Bytes → Type 0 where
  close : {c : ℕ} {r : Bytes} → c ≡ 34 → Chars [] (c ∷ r) r
  unescaped : {c : ℕ} {x s r : Bytes} → is_unescaped c ≡ true → Chars x s r → Chars (c ∷ x) (c ∷ s) r
  escape : {c : ℕ} {x y z s t r : Bytes} → c ≡ 92 → Escape y s t → Chars z t r → x ≡ y ++ z → Chars x (c ∷ s) r

pub data String : Bytes → Bytes → Bytes → Type 0 where
  string : {c : ℕ} {x s r : Bytes} → c ≡ 34 → Chars x s r → String x (c ∷ s) r

mutual
  pub data Spells : Value → Bytes → Bytes → Type 0 where
    is_null : {s r : Bytes} → s ≡ ascii "null" ++ r → Spells null s r
    is_true : {s r : Bytes} → s ≡ ascii "true" ++ r → Spells (bool true) s r
    is_false : {s r : Bytes} → s ≡ ascii "false" ++ r → Spells (bool false) s r
    is_number : {x s r : Bytes} → Number s r → s ≡ x ++ r → Spells (number x) s r
    is_text : {x s r : Bytes} → String x s r → Spells (text x) s r
    is_array : {vs : Values} {s t u r : Bytes} → Structural 91 s t → Elements vs t u → Structural 93 u r → Spells (array vs) s r
    is_object : {ms : Members} {s t u r : Bytes} → Structural 123 s t → MembersOf ms t u → Structural 125 u r → Spells (object ms) s r

  -- [ value *( value-separator value ) ]
  pub data Elements : Values → Bytes → Bytes → Type 0 where
    no_element : {s : Bytes} → Elements nil s s
    elements : {v : Value} {vs : Values} {s t r : Bytes} → Spells v s t → MoreElements vs t r → Elements (cons v vs) s r

  pub data MoreElements : Values → Bytes → Bytes → Type 0 where
    last_element : {s : Bytes} → MoreElements nil s s
    next_element : {v : Value} {vs : Values} {s t u r : Bytes} → Structural 44 s t → Spells v t u → MoreElements vs u r → MoreElements (cons v vs) s r

  -- [ member *( value-separator member ) ], member = string name-separator value
  pub data MembersOf : Members → Bytes → Bytes → Type 0 where
    no_member : {s : Bytes} → MembersOf empty s s
    members : {k : Bytes} {v : Value} {ms : Members} {s t u w r : Bytes} → String k s t → Structural 58 t u → Spells v u w → MoreMembers ms w r → MembersOf (member k v ms) s r

  pub data MoreMembers : Members → Bytes → Bytes → Type 0 where
    last_member : {s : Bytes} → MoreMembers empty s s
    next_member : {k : Bytes} {v : Value} {ms : Members} {s s' t u w r : Bytes} → Structural 44 s s' → String k s' t → Structural 58 t u →
        Spells v u w → MoreMembers ms w r → MoreMembers (member k v ms) s r

-- JSON-text = ws value ws
pub record JsonText (v : Value) (s : Bytes) : Type 0 where
  pub from : Bytes
  pub to : Bytes
  pub before : Ws s from
  pub spelled : Spells v from to
  pub behind : Ws to []

-- what a sheet's text must be to be read as a tree
pub record Within (v : Value) (s : Bytes) : Type 0 where
  pub bytes : length s ≤ max_bytes
  pub is_utf8 : utf8 scalar s ≡ true
  pub is_json : JsonText v s
  pub brackets : depth v ≤ max_depth
  pub count : nodes v ≤ max_nodes
  pub is_tidy : tidy max_number v ≡ true
