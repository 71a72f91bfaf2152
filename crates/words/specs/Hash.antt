-- "Stored terms" in document 01: the hash of a node's words.
use Rattle.std.specs.Prelude.{ℕ, ◌+◌, ◌*◌, ◌/◌, ◌%◌, ◌^◌, List, [], ◌∷◌, bit_xor}

-- The low 64 bits of a product.
unfoldable pub product : ℕ → ℕ → ℕ
product a b = (a * b) % 2 ^ 64

-- A number of 64 bits rotated left by 5.
unfoldable pub rotated : ℕ → ℕ
rotated h = (h % 2 ^ 59) * 32 + h / 2 ^ 59

-- "For each word of a node, h, starting at 0, is rotated left by 5 in 64 bits, xored with the word and multiplied by
-- 517cc1b727220a95 (hexadecimal), keeping only the low 64 bits of the product."
unfoldable pub hashed : ℕ → ℕ → ℕ
hashed h word = product (bit_xor (rotated h) word) 0x517c_c1b7_2722_0a95

unfoldable pub hashed_all : ℕ → List ℕ → ℕ
hashed_all h [] = h
hashed_all h (word ∷ words) = hashed_all (hashed h word) words

unfoldable pub hash : List ℕ → ℕ
hash words = hashed_all 0 words
