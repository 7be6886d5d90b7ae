-- The command of the words: its modes, their options, and what a parse found.
use Rattle.std.specs.Prelude.{ℕ, List, [], ◌∷◌, ◌++◌, Option, Some, None, true, false, codes, map, option_and_then, if◌then◌else◌}
use Rattle.std.specs.Str.{bytes_eq}
use Rattle.clap.specs.Walk.{Rule, Row, all_of, first_of}
use Rattle.clap.specs.Simple.{App, Shape, new_app, new_rule}
use Rattle.clap.specs.declared.builder.action.ArgAction.TheVariants.{Append}
use Rattle.tx_app.specs.Words.{Task, shows, checks, queries, size_options}

-- the id of the words that are no options
abbrev pub words_id : List ℕ
words_id = codes "words"

-- an option with a value, of which both the id and the long name are this
abbrev pub option_rule : List ℕ → Rule
option_rule name = record (new_rule name) { long = Some name }

-- the words that are no options, each a value of its own
abbrev pub words_rule : Rule
words_rule = record (new_rule words_id) { action = Some Append }

-- a mode, with its options
abbrev pub mode_rules : List (List ℕ) → List Rule
mode_rules names = map option_rule names ++ words_rule ∷ []

abbrev pub mode_shape : List ℕ → List (List ℕ) → Shape
mode_shape mode names = record (new_app mode).top { rules = mode_rules names }

-- the command without help and version, whose modes are these
abbrev pub command_app : App
command_app = record {
  top = record (new_app (codes "tx")).top {
    disable_help_flag = true;
    disable_help_subcommand = true;
    disable_version_flag = true;
    subcommand_required = true;
    is_leaf = false;
  };
  subs = mode_shape (codes "check") [] ∷ mode_shape (codes "query") [] ∷ mode_shape (codes "show") size_options ∷ [];
}

-- what a mode that was met, with these matches, asks for
abbrev pub asked_with : List ℕ → List Row → List (List ℕ) → Option Task
asked_with mode rows others =
    if bytes_eq mode (codes "show") then shows others (first_of (codes "width") rows) (first_of (codes "height") rows)
    else if bytes_eq mode (codes "check") then checks others
    else if bytes_eq mode (codes "query") then queries others else None

abbrev pub asked_by : List ℕ → List Row → Option Task
asked_by mode rows = option_and_then (asked_with mode rows) (all_of words_id rows)

-- what the mode asks for that a parse met
abbrev pub asked_in : Option (List ℕ × List Row) → Option Task
asked_in None = None
asked_in (Some met) = asked_by met.0 met.1
