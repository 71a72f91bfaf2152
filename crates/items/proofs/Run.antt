-- What the second walk reads, opened for computing it on small texts: an order of tests is shown by a text that fails two of them.
use Prim.Native.Nat.{ℕ}
use Rattle.lex.specs.Below.horn.specs.Refusals
use Rattle.lex.specs.Below.horn.specs.Utf8
use Rattle.lex.specs.Below.horn.specs.Tokens
use Rattle.words.specs.Parts
use Rattle.words.specs.Sums
use Rattle.lex.specs.Answers
use Rattle.lex.specs.Below.utf8.specs.Characters
use Rattle.lex.specs.Below.utf8.specs.Classes
use Rattle.lex.specs.Below.scanning.specs.Scan
use Rattle.outcomes.specs.Below.names.specs.Chains
use Rattle.outcomes.specs.Outcomes.{refusal}
use Rattle.outcomes.specs.Leaving.{Did, ◌leaving◌}
use Rattle.items.specs.Places as places
use Rattle.items.specs.Items
use Rattle.items.specs.declared.Walk.{Walk}

-- To unfold one of these is to unfold the definitions that are named after it.
unfoldable pub open_tokens : Unit {0}
unfolding Refusals.number Utf8.within Utf8.tail Utf8.sequences Utf8.started_by Tokens.white Tokens.white_ranges Tokens.in_some Tokens.kind Parts.part
    Parts.same_bytes Sums.sum32 Answers.token_at Answers.scanned_on Answers.scanned Answers.taken_by Answers.taken Answers.start Characters.one_more Characters.rest
    Characters.first Characters.width Characters.value Characters.kind_at Characters.in_range Characters.longer_by Classes.kind_number Scan.blanks Scan.atom_end
    Scan.line_end
open_tokens = tt

unfoldable pub open_names : Unit {0}
unfolding Chains.hashed_all Chains.hash_of Chains.bucket_of Chains.name_at Chains.before Chains.searched Chains.chased Chains.found Chains.linked Chains.added
open_names = tt

unfoldable pub open_items : Unit {0}
unfolding Items.pushed Items.item_due Items.atom_due Items.list_due Items.closing_due Items.question Items.declared_name Items.head_due
open_items = tt

-- The walk at the start of a text.
unfoldable pub at_start : Walk
unfolding Answers.start
at_start = record { reader = Answers.start; opened = 0; top = places.entries; variables = 0 }

-- The number that is answered: 0, or that of the refusal.
abbrev pub answered_with : {S A : Type 0} → Did S A → ℕ
answered_with (o leaving s) = refusal o
