-- Words put into an area before a call, and the test of them after it.
use Rattle.std.specs.Prelude.{ℕ, zero, suc, ◌+◌, ◌%◌, ◌^◌, Bool, true, false, List, length, ◌==◌, nat_lt, slice_index, slice_set}

-- From place i on, n places: w, then each `step` more, modulo 2 to the 32.
unfoldable pub filled : ℕ → ℕ → ℕ → ℕ → List ℕ → List ℕ
filled zero i w step s = s
filled (suc n) i w step s = filled n (i + 1) ((w + step) % 2 ^ 32) step (slice_set s i w)

-- The word due at place i: 0 among the first n, else w.
unfoldable pub due : ℕ → ℕ → ℕ → ℕ
due i n w = elim (nat_lt i n) [ true ↦ 0 | false ↦ w ]

-- Whether from place i on each word is the one that is due.
unfoldable pub held : ℕ → ℕ → ℕ → ℕ → ℕ → List ℕ → Bool
held zero i n w step s = true
held (suc m) i n w step s = elim (slice_index s i == due i n w) [ true ↦ held m (i + 1) n ((w + step) % 2 ^ 32) step s | false ↦ false ]

-- The same of a whole area.
unfoldable pub area_held : ℕ → ℕ → ℕ → List ℕ → Bool
area_held n first step s = held (length s) 0 n first step s

-- The same of four areas.
unfoldable pub all_held : ℕ → ℕ → ℕ → List ℕ → List ℕ → List ℕ → List ℕ → Bool
all_held n first step a b c d =
    elim (area_held n first step a) [
      | true ↦ elim (area_held n first step b) [
        | true ↦ elim (area_held n first step c) [ true ↦ area_held n first step d | false ↦ false ]
        | false ↦ false
      ]
      | false ↦ false
    ]
