-- One use of an option or of another word in a parse of a mode, by what was given before.
use Rattle.std.proofs.Common.{◌≡◌, ℕ, Bool, true, false, List, [], ◌∷◌, ◌++◌, map, Option, None, Some, refl, ap, sym, ◌∙◌, subst, option_map, option_and_then, if◌then◌else◌, find, is_some, ◌||◌, true≢false}
use Rattle.std.specs.Prelude.{unwrap_or}
use Rattle.std.specs.Str.{bytes_eq}
use Rattle.clap.specs.Walk.{Row, Rule, Text, all_of, has_row, arg_by_id, arg_by_index, arg_by_long, arg_by_short, used, with_values, reading_by}
use Rattle.clap.specs.Simple.{new_rule}
use Rattle.clap.specs.Kinds.{Kinds, or_else}
use Rattle.clap.specs.Faults.{use_fault}
use Rattle.clap.specs.declared.builder.action.ArgAction.TheVariants.{Append, Set}
use Rattle.clap.specs.declared.builder.value_parser.ValueParser.TheVariants as parser
use Rattle.clap.specs.declared.parser.matches.ValueSource.TheVariants.{CommandLine}
use Rattle.tx_app.specs.CommandLine.{words_id}
use Rattle.tx_app.specs.Words.{Given, is_among, value_of_option, with_option, with_others}
use Rattle.tx_app.proofs.RowLemmas.{bytes_eq-same, same_text, has_row-all_of, without-none, values_of_same, values_of_other}

-- ---- the arguments of a mode that is built

abbrev pub option_ready : Text → Rule
option_ready name = record (new_rule name) { long = Some name; action = Some Set; parser = Some parser.String; range = Some (record { start_inclusive = 1; end_inclusive = 1 }) }

abbrev pub words_ready : Rule
words_ready = record (new_rule words_id) { index = Some 1; action = Some Append; parser = Some parser.String; range = Some (record { start_inclusive = 1; end_inclusive = 1 }) }

abbrev pub rules_ready : List Text → List Rule
rules_ready names = map option_ready names ++ words_ready ∷ []

pub by_long : (names : List Text) (name : Text) → arg_by_long (rules_ready names) name ≡ (if is_among name names then Some (option_ready name) else None)
by_long [] name = refl
by_long (one ∷ names) name = of (bytes_eq one name) refl (by_long names name)
  where
    of : (b : Bool) → bytes_eq one name ≡ b → arg_by_long (rules_ready names) name ≡ (if is_among name names then Some (option_ready name) else None)
        → arg_by_long (rules_ready (one ∷ names)) name ≡ (if is_among name (one ∷ names) then Some (option_ready name) else None)
    of true is rest = rw is (ap (λ n. Some (option_ready n)) (same_text one name is))
    of false is rest = rw is rest

pub by_id : (names : List Text) (name : Text) → is_among name names ≡ true → arg_by_id (rules_ready names) name ≡ Some (option_ready name)
by_id [] name among = absurd (true≢false (sym among))
by_id (one ∷ names) name among = of (bytes_eq one name) refl among (by_id names name)
  where
    of : (b : Bool) → bytes_eq one name ≡ b → is_among name (one ∷ names) ≡ true → (is_among name names ≡ true → arg_by_id (rules_ready names) name ≡ Some (option_ready name))
        → arg_by_id (rules_ready (one ∷ names)) name ≡ Some (option_ready name)
    of true is among rest = rw is (ap (λ n. Some (option_ready n)) (same_text one name is))
    of false is among rest = rw is (rest (subst (λ b. (b || is_among name names) ≡ true) is among))

pub by_words : (names : List Text) → is_among words_id names ≡ false → arg_by_id (rules_ready names) words_id ≡ Some words_ready
by_words [] apart = refl
by_words (one ∷ names) apart = of (bytes_eq one words_id) refl apart (by_words names)
  where
    of : (b : Bool) → bytes_eq one words_id ≡ b → is_among words_id (one ∷ names) ≡ false → (is_among words_id names ≡ false → arg_by_id (rules_ready names) words_id ≡ Some words_ready)
        → arg_by_id (rules_ready (one ∷ names)) words_id ≡ Some words_ready
    of true is apart rest = absurd (true≢false (subst (λ b. (b || is_among words_id names) ≡ false) is apart))
    of false is apart rest = rw is (rest (subst (λ b. (b || is_among words_id names) ≡ false) is apart))

pub by_short : (names : List Text) (x : ℕ) → arg_by_short (rules_ready names) x ≡ None
by_short [] x = refl
by_short (one ∷ names) x = by_short names x

pub by_index : (names : List Text) → arg_by_index (rules_ready names) 1 ≡ Some words_ready
by_index [] = refl
by_index (one ∷ names) = by_index names

-- ---- what the rows hold

-- they hold what was given
pub record Found (names : List Text) (rows : List Row) (seen : Given) : Type 0 where
  pub options : (name : Text) → is_among name names ≡ true → all_of name rows ≡ option_map (λ value. value ∷ []) (value_of_option name seen)
  pub others : unwrap_or (all_of words_id rows) [] ≡ seen.others

-- no fault, and the rows hold what is given; or a fault, and the words are refused
abbrev pub Agrees : List Text → Kinds → List Row → Option Given → Type 0
Agrees names [] rows None = ⊥
Agrees names [] rows (Some seen) = Found names rows seen
Agrees names (kind ∷ kinds) rows None = Unit {0}
Agrees names (kind ∷ kinds) rows (Some seen) = ⊥

pub Agrees-then : (names : List Text) (fault next : Kinds) (rows after : List Row) (seen : Option Given) (goes : Given → Option Given)
    → Agrees names fault rows seen → ((found : Given) → Found names rows found → Agrees names next after (goes found)) → Agrees names (or_else fault next) after (option_and_then goes seen)
Agrees-then names [] next rows after None goes agrees later = absurd agrees
Agrees-then names [] next rows after (Some seen) goes agrees later = later seen agrees
Agrees-then names (kind ∷ kinds) next rows after None goes agrees later = tt
Agrees-then names (kind ∷ kinds) next rows after (Some seen) goes agrees later = absurd agrees

-- ---- a use

value-after : (name value other : Text) (options : List (Text × Text)) → option_map (λ (o : Text × Text). o.1) (find (λ (o : Text × Text). bytes_eq o.0 other) (options ++ (name, value) ∷ []))
    ≡ (if is_some (find (λ (o : Text × Text). bytes_eq o.0 other) options) then option_map (λ (o : Text × Text). o.1) (find (λ (o : Text × Text). bytes_eq o.0 other) options) else (if bytes_eq name other then Some value else None))
value-after name value other [] = of (bytes_eq name other) refl
  where
    of : (b : Bool) → bytes_eq name other ≡ b → option_map (λ (o : Text × Text). o.1) (find (λ (o : Text × Text). bytes_eq o.0 other) ((name, value) ∷ [])) ≡ (if bytes_eq name other then Some value else None)
    of true is = rw is refl
    of false is = rw is refl
value-after name value other (option ∷ options) = of (bytes_eq option.0 other) refl (value-after name value other options)
  where
    of : (b : Bool) → bytes_eq option.0 other ≡ b → option_map (λ (o : Text × Text). o.1) (find (λ (o : Text × Text). bytes_eq o.0 other) (options ++ (name, value) ∷ []))
        ≡ (if is_some (find (λ (o : Text × Text). bytes_eq o.0 other) options) then option_map (λ (o : Text × Text). o.1) (find (λ (o : Text × Text). bytes_eq o.0 other) options) else (if bytes_eq name other then Some value else None))
        → option_map (λ (o : Text × Text). o.1) (find (λ (o : Text × Text). bytes_eq o.0 other) ((option ∷ options) ++ (name, value) ∷ []))
        ≡ (if is_some (find (λ (o : Text × Text). bytes_eq o.0 other) (option ∷ options)) then option_map (λ (o : Text × Text). o.1) (find (λ (o : Text × Text). bytes_eq o.0 other) (option ∷ options)) else (if bytes_eq name other then Some value else None))
    of true is rest = rw is refl
    of false is rest = rw is rest

abbrev with_one : Text → Text → Given → Given
with_one name value seen = record seen { options = seen.options ++ (name, value) ∷ [] }

-- the same option
option-same : (name value : Text) (seen : Given) → value_of_option name seen ≡ None → value_of_option name (with_one name value seen) ≡ Some value
option-same name value seen none = value-after name value name seen.options ∙ of (find (λ (o : Text × Text). bytes_eq o.0 name) seen.options) none
  where
    of : (found : Option (Text × Text)) → option_map (λ (o : Text × Text). o.1) found ≡ None → (if is_some found then option_map (λ (o : Text × Text). o.1) found else (if bytes_eq name name then Some value else None)) ≡ Some value
    of None none = rw (bytes_eq-same name) refl
    of (Some o) none = absurd (true≢false (ap is_some none))

-- another one
option-other : (name value other : Text) (seen : Given) → bytes_eq name other ≡ false → value_of_option other (with_one name value seen) ≡ value_of_option other seen
option-other name value other seen apart = value-after name value other seen.options ∙ of (find (λ (o : Text × Text). bytes_eq o.0 other) seen.options)
  where
    of : (found : Option (Text × Text)) → (if is_some found then option_map (λ (o : Text × Text). o.1) found else (if bytes_eq name other then Some value else None)) ≡ option_map (λ (o : Text × Text). o.1) found
    of None = rw apart refl
    of (Some o) = refl

module _ (names : List Text) (name value : Text) (rows : List Row) (seen : Given) (found : Found names rows seen) where
  abbrev rows_with : List Row
  rows_with = used (option_ready name) (value ∷ []) rows

  abbrev changed : List Row
  changed = with_values name (reading_by (option_ready name)) CommandLine (value ∷ []) rows

  found-with : is_among words_id names ≡ false → is_among name names ≡ true → has_row name rows ≡ false → value_of_option name seen ≡ None → Found names rows_with (with_one name value seen)
  found-with apart among none none_seen = rw (without-none name rows none) (record { options = options; others = others })
    where
      options : (other : Text) → is_among other names ≡ true → all_of other changed ≡ option_map (λ v. v ∷ []) (value_of_option other (with_one name value seen))
      options other is = of (bytes_eq name other) refl
        where
          of : (b : Bool) → bytes_eq name other ≡ b → all_of other changed ≡ option_map (λ v. v ∷ []) (value_of_option other (with_one name value seen))
          of true same = subst (λ t. all_of t changed ≡ option_map (λ v. v ∷ []) (value_of_option t (with_one name value seen))) (same_text name other same)
              (values_of_same name _ CommandLine (value ∷ []) rows
              ∙ ap (λ o. Some (unwrap_or o [] ++ value ∷ [])) (found.options name among ∙ ap (option_map (λ v. v ∷ [])) none_seen)
              ∙ sym (ap (option_map (λ v. v ∷ [])) (option-same name value seen none_seen)))
          of false same = values_of_other name _ CommandLine (value ∷ []) other rows same ∙ found.options other is
              ∙ sym (ap (option_map (λ v. v ∷ [])) (option-other name value other seen same))

      differs : (b : Bool) → bytes_eq name words_id ≡ b → b ≡ false
      differs true is = absurd (true≢false (sym among ∙ ap (λ t. is_among t names) (same_text name words_id is) ∙ apart))
      differs false is = refl

      others : unwrap_or (all_of words_id changed) [] ≡ seen.others
      others = ap (λ o. unwrap_or o []) (values_of_other name _ CommandLine (value ∷ []) words_id rows (differs (bytes_eq name words_id) refl)) ∙ found.others

  -- one value of an option
  pub use_option : is_among words_id names ≡ false → is_among name names ≡ true → Agrees names (use_fault false (option_ready name) (value ∷ []) rows) rows_with (with_option name value seen)
  use_option apart among = of (value_of_option name seen) refl
    where
      of : (before : Option Text) → value_of_option name seen ≡ before → Agrees names (use_fault false (option_ready name) (value ∷ []) rows) rows_with (with_option name value seen)
      of (Some old) is =
          let row : has_row name rows ≡ true = has_row-all_of name rows ∙ ap is_some (found.options name among ∙ ap (option_map (λ v. v ∷ [])) is) in
          rw row (rw is tt)
      of None is =
          let row : has_row name rows ≡ false = has_row-all_of name rows ∙ ap is_some (found.options name among ∙ ap (option_map (λ v. v ∷ [])) is) in
          let fresh = found-with apart among row is in
          rw row (rw is fresh)

  -- a word that is no option
  pub use_word : is_among words_id names ≡ false → Found names (used words_ready (value ∷ []) rows) (with_others (value ∷ []) seen)
  use_word apart = record { options = options; others = others }
    where
      options : (other : Text) → is_among other names ≡ true → all_of other (used words_ready (value ∷ []) rows) ≡ option_map (λ v. v ∷ []) (value_of_option other seen)
      options other is = values_of_other words_id _ CommandLine (value ∷ []) other rows (of (bytes_eq words_id other) refl) ∙ found.options other is
        where
          of : (b : Bool) → bytes_eq words_id other ≡ b → bytes_eq words_id other ≡ false
          of true same = absurd (true≢false (sym is ∙ ap (λ t. is_among t names) (sym (same_text words_id other same)) ∙ apart))
          of false same = same

      others : unwrap_or (all_of words_id (used words_ready (value ∷ []) rows)) [] ≡ seen.others ++ value ∷ []
      others = ap (λ o. unwrap_or o []) (values_of_same words_id _ CommandLine (value ∷ []) rows) ∙ ap (λ ws. ws ++ value ∷ []) found.others
