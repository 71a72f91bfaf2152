-- What the calls compute by, to be unfolded: an example is proved by `unfolding open_all` and `refl`.
use Prim.Native.Nat.{ℕ}
use Rattle.horn.specs.Refusals
use Rattle.horn.specs.Setting
use Rattle.horn.specs.Utf8
use Rattle.horn.specs.Tokens
use Rattle.horn.specs.NestedLists
use Rattle.horn.specs.Names
use Rattle.horn.specs.Rulebook
use Rattle.horn.specs.StoredTerms
use Rattle.horn.specs.Checker
use Rattle.horn.specs.Matching
use Rattle.horn.specs.Certificate
use Rattle.horn.specs.Calls
use Rattle.horn.specs.Layout
use Rattle.horn.specs.Output
use Rattle.horn.specs.Used
use Rattle.horn.specs.Page
use Rattle.horn.specs.Setting.{Setting, document01}

-- To unfold one of these is to unfold those definitions of the module that it is named after by which the calls compute.
unfoldable pub open_refusals : Unit {0}
unfolding Refusals.number Refusals.◌>>=◌ Refusals.need Refusals.found
open_refusals = tt

unfoldable pub open_setting : Unit {0}
unfolding Setting.document01
open_setting = tt

unfoldable pub open_utf8 : Unit {0}
unfolding Utf8.within Utf8.tail Utf8.sequences Utf8.started_by Utf8.resumed Utf8.decoded
open_utf8 = tt

unfoldable pub open_tokens : Unit {0}
unfolding Tokens.before Tokens.onto_first_line Tokens.lines Tokens.characters Tokens.white_ranges Tokens.in_some Tokens.white Tokens.kind
    Tokens.begins Tokens.continues Tokens.ends_comment Tokens.move Tokens.unended Tokens.tokens_from Tokens.tokens
open_tokens = tt

unfoldable pub open_nested_lists : Unit {0}
unfolding NestedLists.innermost NestedLists.outer NestedLists.add NestedLists.around NestedLists.items NestedLists.asked_at
    NestedLists.absent NestedLists.sexps NestedLists.sexp
open_nested_lists = tt

unfoldable pub open_names : Unit {0}
unfolding Names.same_list Names.named Names.codes Names.questioned Names.bare Names.first Names.is_zero Names.some_of
open_names = tt

unfoldable pub open_rulebook : Unit {0}
unfolding Rulebook.same_output Rulebook.same_symbol Rulebook.inputs Rulebook.output Rulebook.sort_of Rulebook.variables_of Rulebook.premises_of
    Rulebook.conclusion_of Rulebook.is_constructor Rulebook.is_predicate Rulebook.is_rule Rulebook.is_variable Rulebook.constructor
    Rulebook.predicate Rulebook.rule_named Rulebook.atom_due Rulebook.list_due Rulebook.declared_name Rulebook.sort_named Rulebook.sorts_named
    Rulebook.count Rulebook.fits Rulebook.variable_pattern Rulebook.constant_pattern Rulebook.judgment_members Rulebook.judgment_pattern
    Rulebook.judgment_patterns Rulebook.declare_sort Rulebook.with_symbol Rulebook.declare_constructor Rulebook.declare_predicate
    Rulebook.declare_rule Rulebook.one_member Rulebook.two_members Rulebook.three_members Rulebook.declaration_word Rulebook.declare
    Rulebook.headed_declaration Rulebook.declaration Rulebook.declarations Rulebook.empty_theory Rulebook.theory Rulebook.pattern
open_rulebook = tt

unfoldable pub open_stored_terms : Unit {0}
unfolding StoredTerms.width StoredTerms.node_size StoredTerms.size StoredTerms.holds StoredTerms.within_limits StoredTerms.intern StoredTerms.same_term
    StoredTerms.met_by StoredTerms.request
open_stored_terms = tt

unfoldable pub open_checker : Unit {0}
unfolding Checker.◌>>=◌ Checker.give Checker.lift Checker.word_due Checker.group_due Checker.ask Checker.ask_word Checker.ask_group
    Checker.closing_due Checker.decimal Checker.digits Checker.numeral Checker.number_due Checker.ask_number Checker.is_def Checker.meaning
    Checker.goal_judgment Checker.is_goal Checker.has_sort Checker.accepts Checker.stored Checker.make Checker.atom_term Checker.ask_term
    Checker.headed_judgment Checker.ask_judgment Checker.goal_form Checker.goal_forms Checker.goals_of Checker.term
open_checker = tt

unfoldable pub open_matching : Unit {0}
unfolding Matching.judgment_of Matching.rule_of Matching.references_of Matching.lookup Matching.match_var Matching.match_premises Matching.match Matching.build
open_matching = tt

unfoldable pub open_certificate : Unit {0}
unfolding Certificate.references Certificate.is_bound Certificate.is_stated Certificate.without Certificate.form_word Certificate.def_form
    Certificate.result_form Certificate.binding_item Certificate.conclusion_item Certificate.step_item Certificate.step_items
    Certificate.conclude Certificate.step_form Certificate.headed_form Certificate.certificate_form Certificate.certificate_forms
    Certificate.certificate_of
open_certificate = tt

unfoldable pub open_calls : Unit {0}
unfolding Calls.constructor_count Calls.predicate_count Calls.areas_long Calls.rulebook_judged Calls.release_read Calls.report_of Calls.release_judged Calls.rulebook_answer
    Calls.release_answer Calls.rulebook_call Calls.release_call Calls.area_after Calls.leaving Calls.rulebook_left Calls.release_left
open_calls = tt

unfoldable pub open_output : Unit {0}
unfolding Layout.next Layout.counted_to Layout.plain Layout.rule_name Output.fitting Output.written Output.output_of Output.spaces Output.padded
    Output.right_aligned Output.goes_on Output.cut Output.name_field
open_output = tt

unfoldable pub open_used : Unit {0}
unfolding Used.result_step Used.references_at Used.used_below Used.used_steps
open_used = tt

unfoldable pub open_page : Unit {0}
unfolding Page.goal_line Page.is_result_of Page.line_of Page.goal_lines Page.percentage Page.last_line Page.page_of Page.page_judged Page.page_call Page.page_left
open_page = tt

-- 01's limits, but for those of the store.
unfoldable pub store_of : ℕ → ℕ → Setting
store_of nodes words =
    record {
      area_words = document01.area_words;
      last_area_words = document01.last_area_words;
      rulebook_bytes = document01.rulebook_bytes;
      goals_bytes = document01.goals_bytes;
      certificate_bytes = document01.certificate_bytes;
      nodes = nodes;
      node_words = words;
    }

-- To unfold this is to unfold all that the calls compute by, and `store_of`.
unfoldable pub open_all : Unit {0}
unfolding store_of open_refusals open_setting open_utf8 open_tokens open_nested_lists open_names open_rulebook open_stored_terms open_checker open_matching
    open_certificate open_calls open_output open_used open_page
open_all = tt
