-- The default sheet is in the grammar.
use Rattle.std.proofs.Common.{◌≡◌, [], Ok, refl, ap}
use Rattle.tx_frac.specs.Ratio.{lowest, gcd, greatest_divisor}
use Rattle.tx_lex.specs.Lexing.{decimals_len, whole_len, number_len, comment_len, longest_token, token_at}
use Rattle.tx_read.specs.Reading.{many}
use Rattle.tx_select.specs.SelectorReading.{part_at, parts_at, kind_at, compound_at, spaces_at, link_at, compounds_at, selector_at}
use Rattle.tx_select.specs.Pseudo.{pseudo_of}
use Rattle.tx_value.specs.Values.{border_kind, border, mark_of, text_style, grid_size, gutter, offset, value_of}
use Rattle.tx_value.specs.Names.{keyword, all_names}
use Rattle.tx_value.specs.Numbers.{unit_of, scalar_of}
use Rattle.tx_value.specs.Colours.{colour_named, colour}
use Rattle.tx_value.specs.Declarations.{pairs_of}
use Rattle.tx_value.specs.Theme.{theme_name_of}
use Rattle.tx_parse.specs.SheetReading.{mark_at, values_from, values_at, first_value_at, importance_at, spelled_at, declaration_at, item_at, body_from, body_at, spaced_selector_at, goes_on_at, selectors_from, selectors_at, rule_at, definition_at, variable_in_sheet, rule_in_sheet, part_at as sheet_part_at, sheet_from, sheet_at}
use Rattle.tx_parse.specs.Variables.{stands_for}
use Rattle.tx_parse.specs.Texts.{sheet_of}
use Rattle.tx_parse.proofs.lemmas.TextLaws.{sheet_text}
use Rattle.tx_parse.specs.Default.{rules_of}
use Rattle.tx_parse.specs.DefaultRules.{default_rules}
use Rattle.tx_parse.specs.Laws.{DefaultSheetIsRead}
use Rattle.tx_parse.specs.declared.default.TheConstants.{DEFAULT_SHEET}

-- Reading it computes.
reading : sheet_of DEFAULT_SHEET.now ≡ Ok (record { defined = []; rules = default_rules; variables = 0; written = 52 })
unfolding decimals_len whole_len number_len comment_len longest_token token_at many part_at parts_at kind_at compound_at spaces_at link_at compounds_at selector_at pseudo_of border_kind border mark_of text_style grid_size gutter offset value_of keyword all_names unit_of scalar_of colour_named colour pairs_of theme_name_of mark_at values_from values_at first_value_at importance_at spelled_at declaration_at item_at body_from body_at spaced_selector_at goes_on_at selectors_from selectors_at rule_at definition_at variable_in_sheet rule_in_sheet sheet_part_at sheet_from sheet_at stands_for sheet_of default_rules lowest gcd greatest_divisor
reading = refl

pub default_reading : rules_of (sheet_of DEFAULT_SHEET.now) ≡ default_rules
default_reading = ap rules_of reading

pub default_read : DefaultSheetIsRead
default_read = (_, sheet_text DEFAULT_SHEET.now _ reading, refl)
