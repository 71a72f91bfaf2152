-- What is left of an item's answer that is neither a refusal nor an atom. Assumes nothing.
use mathlib.Core.Path.{◌≡◌, refl}
use Prim.Native.Nat.{ℕ}
use Rattle.std.specs.declared.result.Result.{Result}
use Rattle.std.specs.declared.result.Result.TheVariants.{Ok, Err}
use Rattle.outcomes.specs.Outcomes.{refused, ◌>>=◌}
use Rattle.outcomes.specs.Told.{told_as}
use Rattle.outcomes.specs.declared.Refusal.{Refusal}
use Rattle.asking.specs.Asking.{met, atom_only}
use Rattle.asking.specs.declared.Item.{Item}
use Rattle.lex.specs.declared.Reader.{Reader}
use Rattle.asking.specs.declared.Item.TheVariants as items

pub no_atom : (i : Result Item Refusal) → ((e : Refusal) → i ≡ Err e → ⊥) → ((s t : ℕ) (r : Reader) → i ≡ Ok (items.Atom s t r) → ⊥) → (told_as met i >>= atom_only) ≡ refused 7
no_atom (Ok (items.Atom s t r)) p q = absurd (q s t r refl)
no_atom (Ok (items.List r)) p q = refl
no_atom (Err e) p q = absurd (p e refl)
