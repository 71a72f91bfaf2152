-- Bytes put into a buffer before a call that writes, and the test of them after it.
use Rattle.std.specs.Prelude.{ℕ, zero, suc, ◌+◌, ◌-◌, ◌%◌, Bool, true, false, List, eqb, ltb, length, get_or, set}

-- The byte at place i before a call.
unfoldable pub unwritten : ℕ → ℕ
unwritten i = i % 11 + 0xF5

-- From place i on, n places.
unfoldable pub filled : ℕ → ℕ → List ℕ → List ℕ
filled zero i s = s
filled (suc n) i s = filled n (i + 1) (set s i (unwritten i))

-- The byte due at place i: the text's where it was written, from a place on, else the one that was there.
unfoldable pub due : ℕ → ℕ → List ℕ → ℕ
due i start text =
    elim (ltb i start) [
      | true ↦ unwritten i
      | false ↦ elim (ltb (i - start) (length text)) [ true ↦ get_or text (i - start) 0 | false ↦ unwritten i ]
    ]

-- Whether from place i on each byte is the one that is due.
unfoldable pub held : ℕ → ℕ → ℕ → List ℕ → List ℕ → Bool
held zero i start text s = true
held (suc n) i start text s = elim (eqb (get_or s i 0) (due i start text)) [ true ↦ held n (i + 1) start text s | false ↦ false ]

-- The same of a whole buffer.
unfoldable pub buffer_held : ℕ → List ℕ → List ℕ → Bool
buffer_held start text s = held (length s) 0 start text s
