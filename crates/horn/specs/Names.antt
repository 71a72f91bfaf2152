-- "Names are equal when their bytes are", in document 01's "Rulebook": names, and how they are looked up in lists.
use Rattle.std.specs.Prelude.{ℕ, zero, suc, Bool, true, false, List, [], ◌∷◌, eqb}
use Prim.Native.Char.{code}
use Prim.Native.String as Str
use Prim.Native.String.{String}
use Rattle.std.proofs.Math.Option.{Option, none, some}

-- A name is its bytes.
abbrev pub Name : Type 0
Name = List ℕ

-- Whether two lists are equal, by a test of their elements.
unfoldable pub same_list : {A : Type 0} → (A → A → Bool) → List A → List A → Bool
same_list test [] [] = true
same_list test [] (b ∷ bs) = false
same_list test (a ∷ as') [] = false
same_list test (a ∷ as') (b ∷ bs) = elim (test a b) [ true ↦ same_list test as' bs | false ↦ false ]

-- "Names are equal when their bytes are."
unfoldable pub named : Name → Name → Bool
named = same_list eqb

-- The bytes of ASCII characters, for words that 01 writes out, such as `goal`.
unfoldable pub codes : String → Name
codes Str.[] = []
codes (Str.◌∷◌ c cs) = code c ∷ codes cs

-- "With a leading `?`": whether a name has one.
unfoldable pub questioned : Name → Bool
questioned [] = false
questioned (b ∷ bs) = eqb b 0x3F

-- "`?` alone": whether that is the whole name.
unfoldable pub bare : Name → Bool
bare name = named name (codes "?")

-- The first entry of a list that passes a test: how a name is looked up among what is known.
unfoldable pub first : {A : Type 0} → (A → Bool) → List A → Option A
first test [] = none
first test (a ∷ as') = elim (test a) [ true ↦ some a | false ↦ first test as' ]

-- Whether a count is 0: that of the members of a list, the arguments of a term or the entries of a table.
unfoldable pub is_zero : ℕ → Bool
is_zero zero = true
is_zero (suc n) = false

-- Whether some entry of a list passes a test: how a duplicate is found, and a sort that is unknown.
unfoldable pub some_of : {A : Type 0} → (A → Bool) → List A → Bool
some_of test [] = false
some_of test (a ∷ as') = elim (test a) [ true ↦ true | false ↦ some_of test as' ]
