-- UTF-8 (RFC 3629): which bytes are it, the bytes of a scalar value, and the scalar values of a text.
-- Assumes nothing.
use Rattle.std.specs.Prelude.{Bool, false, not, true, ◌&&◌, List, [], ◌++◌, ◌∷◌, suc, zero, ℕ, ◌%◌, ◌*◌, ◌+◌, ◌-◌, ◌/◌, eqb, leb, ltb}
use Rattle.json_text.specs.Bytes.{Bytes, between, choose}
use Rattle.json_text.specs.Json.{Members, Value, Values, array, bool, cons, empty, member, nil, null, number, object, text}

-- UTF-8 (RFC 3629): what may come next
pub data Expect : Type 0 where
  scalar : Expect
  tail : ℕ → ℕ → ℕ → Expect
  never : Expect

abbrev pub lead : ℕ → Expect
lead c =
    choose
    ((ltb c 128, scalar) ∷
    (between 194 223 c, tail 128 191 0) ∷
    (eqb c 224, tail 160 191 1) ∷
    (eqb c 237, tail 128 159 1) ∷
    (between 225 239 c, tail 128 191 1) ∷
    (eqb c 240, tail 144 191 2) ∷
    (between 241 243 c, tail 128 191 2) ∷
    (eqb c 244, tail 128 143 2) ∷
    [])
    never

abbrev pub after : ℕ → Expect
after zero = scalar
after (suc n) = tail 128 191 n

unfoldable pub utf8 : Expect → Bytes → Bool
utf8 scalar [] = true
utf8 scalar (c ∷ s) = utf8 (lead c) s
utf8 (tail low high n) [] = false
utf8 (tail low high n) (c ∷ s) = elim (between low high c) [ true ↦ utf8 (after n) s | false ↦ false ]
utf8 never [] = false
utf8 never (c ∷ s) = false

-- every byte a scalar value by itself
unfoldable pub is_ascii : Bytes → Bool
is_ascii [] = true
is_ascii (c ∷ s) = ltb c 128 && is_ascii s

-- the UTF-8 bytes of a scalar value
unfoldable pub encode : ℕ → Bytes
encode u =
    choose
    ((ltb u 128, u ∷ []) ∷
    (ltb u 2048, (192 + u / 64) ∷ (128 + u % 64) ∷ []) ∷
    (ltb u 65536, (224 + u / 4096) ∷ (128 + u / 64 % 64) ∷ (128 + u % 64) ∷ []) ∷
    [])
    ((240 + u / 262144) ∷ (128 + u / 4096 % 64) ∷ (128 + u / 64 % 64) ∷ (128 + u % 64) ∷ [])

unfoldable pub encode_all : List ℕ → Bytes
unfolding encode
encode_all [] = []
encode_all (u ∷ us) = encode u ++ encode_all us

-- a scalar value: up to 10FFFF, and no surrogate
abbrev pub is_scalar : ℕ → Bool
is_scalar u = leb u 1114111 && not (between 55296 57343 u)

unfoldable pub are_scalars : List ℕ → Bool
are_scalars [] = true
are_scalars (u ∷ us) = is_scalar u && are_scalars us

-- the bits of a scalar value that its first byte has: 0xxxxxxx, 110xxxxx, 1110xxxx, 11110xxx
abbrev pub lead_bits : ℕ → ℕ
lead_bits c = choose ((ltb c 128, c) ∷ (ltb c 224, c - 192) ∷ (ltb c 240, c - 224) ∷ []) (c - 240)

-- the scalar values of a text: a byte 10xxxxxx has six bits more of the one before it, any other byte begins the next
unfoldable pub scalars_from : ℕ → Bytes → List ℕ
scalars_from u [] = u ∷ []
scalars_from u (c ∷ s) = elim (between 128 191 c) [ true ↦ scalars_from (u * 64 + (c - 128)) s | false ↦ u ∷ scalars_from (lead_bits c) s ]

unfoldable pub scalars : Bytes → List ℕ
unfolding scalars_from
scalars [] = []
scalars (c ∷ s) = scalars_from (lead_bits c) s

-- every text and every name of a tree is UTF-8
unfoldable mutual
  unfolding utf8

  pub in_utf8 : Value → Bool
  in_utf8 null = true
  in_utf8 (bool b) = true
  in_utf8 (number s) = true
  in_utf8 (text s) = utf8 scalar s
  in_utf8 (array vs) = all_utf8 vs
  in_utf8 (object ms) = members_utf8 ms

  pub all_utf8 : Values → Bool
  all_utf8 nil = true
  all_utf8 (cons v vs) = in_utf8 v && all_utf8 vs

  pub members_utf8 : Members → Bool
  members_utf8 empty = true
  members_utf8 (member k v ms) = utf8 scalar k && (in_utf8 v && members_utf8 ms)
