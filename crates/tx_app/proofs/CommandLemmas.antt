-- What the command answers is what the words ask for.
use Rattle.std.proofs.Common.{◌≡◌, ℕ, Bool, true, false, not, List, [], ◌∷◌, ◌++◌, map, fold, Option, None, Some, refl, ap, ap₂, sym, ◌∙◌, subst, codes, option_map, option_and_then, if◌then◌else◌, find, is_some, ◌==◌, ◌&&◌, ◌||◌, true≢false, append_assoc, append-nil}
use Rattle.std.specs.List.{list_any}
use Rattle.std.specs.Option.{option_map_or}
use Rattle.std.specs.Prelude.{unwrap_or, slice_get, length, encode_utf8}
use Rattle.clap.specs.Lexer.{long_of, short_of}
use Rattle.std.specs.Str.{bytes_eq, chars}
use Rattle.clap.specs.Walk.{Held, Row, Text, Walk, Names, idle, all_of, first_of, has_row, settled, walk, walked, walk_from, nothing_held, rows_after, finished, with_default}
use Rattle.clap.specs.Simple.{App, Shape, built, entered, names_of, new_shape, subcommand_of}
use Rattle.clap.specs.Kinds.{Kinds, IsAmong, or_else}
use Rattle.clap.specs.Takes.{is_given}
use Rattle.clap.specs.Faults.{settle_fault, walk_fault, turn_fault, flags_fault, defaults_fault, check_fault, level_fault, entered_fault, flag_word_fault, bundle_fault, word_fault, fault_of, is_simple_and_free}
use Rattle.std.specs.Borrow.{Bor}
use Rattle.std.specs.Str.{IsUtf8}
use Rattle.std.proofs.lemmas.Str.{encodes-chars}
use Rattle.std.proofs.Common.{arith}
use Rattle.std.specs.Str.{encode_utf8_all}
use Rattle.clap.specs.Facts.{Entry}
use Rattle.clap.specs.Matches.{first_value, matched_of, raw_values}
use Rattle.clap.specs.Walk.{row_of, rows_of}
use Rattle.clap.specs.declared.parser.matches.Found.{Found as MatchesFound}
use Rattle.clap.specs.declared.error.kind.ErrorKind.{ErrorKind}
use Rattle.clap.specs.declared.error.kind.ErrorKind.TheVariants as kind
use Rattle.tx_app.specs.CommandLine.{asked_by, asked_in, command_app, words_id}
use Rattle.tx_app.specs.Words.{Task, Given, asked, given, is_among, nothing, shows, checks, queries, size_options, value_of_option}
use Rattle.tx_app.proofs.RowLemmas.{bytes_eq-same, same_text}
use Rattle.tx_app.proofs.GivenLemmas.{rules_ready, Found, Agrees}
use Rattle.tx_app.proofs.WalkLemmas.{BeginChars, BeginsChar, WordKind, Dashes, Long, Short, Plain, kind_of_word, or_else-none, ready, faults, rows_at_end, walks}

-- ---- after the walk of a mode

or-true : (b : Bool) → (b || true) ≡ true
or-true true = refl
or-true false = refl

no_defaults : (names : List Text) (rows : List Row) → defaults_fault rows (rules_ready names) ≡ []
unfolding defaults_fault
no_defaults [] rows = rw (or-true (has_row words_id rows)) refl
no_defaults (name ∷ names) rows = rw (or-true (has_row name rows)) (no_defaults names _)

same_or : (b : Bool) (rows : List Row) → (if b then rows else rows) ≡ rows
same_or true rows = refl
same_or false rows = refl

same_rows : (names : List Text) (rows : List Row) → fold with_default rows (rules_ready names) ≡ rows
same_rows [] rows = same_or (has_row words_id rows) rows
same_rows (name ∷ names) rows = ap (λ rs. fold with_default rs (rules_ready names)) (same_or (has_row name rows) rows) ∙ same_rows names rows

none_required : (names : List Text) (rows : List Row) → list_any (λ a. a.required && not (is_given a.id rows)) (rules_ready names) ≡ false
none_required [] rows = refl
none_required (name ∷ names) rows = none_required names rows

nothing_found : (names : List Text) → Found names [] nothing
nothing_found names = record { options = λ name is. refl; others = refl }

abbrev level : Text → List Text → List Text → Kinds
level mode names words = level_fault (ready mode names) [] nothing_held words false []

level_is : (mode : Text) (names : List Text) (apart : is_among words_id names ≡ false) (words : List Text) → level mode names words ≡ faults mode names apart (walk_from nothing_held) words
level_is mode names apart words =
    let end : Held = (walk (rules_ready names) [] nothing_held words).held in
    ap (λ b. or_else (walk_fault (ready mode names) [] (walk_from nothing_held) words) (or_else (settle_fault (rules_ready names) false end) (or_else b (check_fault (ready mode names) (finished (rules_ready names) end) false))))
    (no_defaults names (settled (rules_ready names) end).rows)
    ∙ ap (λ b. or_else (walk_fault (ready mode names) [] (walk_from nothing_held) words) (or_else (settle_fault (rules_ready names) false end) (if b then kind.MissingRequiredArgument ∷ [] else [])))
    (none_required names (finished (rules_ready names) end))
    ∙ ap (or_else (walk_fault (ready mode names) [] (walk_from nothing_held) words)) (or_else-none (settle_fault (rules_ready names) false end))

-- the words of a mode
mode_agrees : (mode : Text) (names : List Text) → is_among words_id names ≡ false → (words : List Text) → BeginChars words
    → Agrees names (level mode names words) (rows_after (rules_ready names) [] words) (given names words)
mode_agrees mode names apart words begin =
    subst (λ kinds. Agrees names kinds (rows_after (rules_ready names) [] words) (given names words)) (sym (level_is mode names apart words))
    (subst (λ rows. Agrees names (faults mode names apart (walk_from nothing_held) words) rows (given names words)) (sym (same_rows names (rows_at_end mode names apart (walk_from nothing_held) words)))
    ((walks mode names apart words begin).free nothing_held idle (Some nothing) refl tt (nothing_found names)))

-- ---- what the rows of a mode ask for

first_of_all : (found : Option Row) → option_and_then (λ r. slice_get r.values 0) found ≡ option_and_then (λ values. slice_get values 0) (option_map (λ r. r.values) found)
first_of_all None = refl
first_of_all (Some r) = refl

first_of_one : (value : Option Text) → option_and_then (λ values. slice_get values 0) (option_map (λ v. v ∷ []) value) ≡ value
first_of_one None = refl
first_of_one (Some v) = refl

first_is : (names : List Text) (rows : List Row) (seen : Given) (name : Text) → Found names rows seen → is_among name names ≡ true → first_of name rows ≡ value_of_option name seen
first_is names rows seen name found among =
    first_of_all (find (λ r. bytes_eq r.id name) rows) ∙ ap (option_and_then (λ values. slice_get values 0)) (found.options name among) ∙ first_of_one (value_of_option name seen)

-- ---- the command

-- no fault, and the mode that was met asks for this; or a fault, and the words ask for nothing
abbrev pub Judged : Kinds → Option (Text × List Row) → Option Task → Type 0
Judged [] met task = asked_in met ≡ task
Judged (k ∷ ks) met task = task ≡ None

Judged-fault : (fault : Kinds) (met : Option (Text × List Row)) (task : Option Task) (k : ErrorKind) (ks : Kinds) → fault ≡ k ∷ ks → task ≡ None → Judged fault met task
Judged-fault fault met task k ks is none = subst (λ kinds. Judged kinds met task) (sym is) none

abbrev top_ready : Shape
top_ready = record (new_shape (codes "tx")) { disable_help_flag = true; disable_help_subcommand = true; disable_version_flag = true; subcommand_required = true; is_leaf = false; is_built = true }

abbrev built_app : App
built_app = record { top = top_ready; subs = ready (codes "check") [] ∷ ready (codes "query") [] ∷ ready (codes "show") size_options ∷ [] }

built_is : built command_app ≡ built_app
built_is = refl

abbrev modes : Names
modes = names_of built_app

abbrev by_walk : Kinds → Walk → Kinds
by_walk fault w = or_else fault (or_else (entered_fault built_app w.stopped) (or_else (settle_fault [] false w.held) (or_else (defaults_fault (settled [] w.held).rows [])
    (check_fault top_ready (finished [] w.held) (is_some (entered built_app w.stopped))))))

fault_is : (program : Text) (words : List Text) → fault_of command_app (program ∷ words) ≡ by_walk (walk_fault top_ready modes (walk_from nothing_held) words) (walk [] modes nothing_held words)
fault_is program words = refl

met_is : (program : Text) (words : List Text) → subcommand_of command_app (program ∷ words) ≡ entered built_app (walk [] modes nothing_held words).stopped
met_is program words = refl

-- a walk that stopped at a mode
abbrev stopped_at : Text → List Text → Walk
stopped_at name words = record (walk_from nothing_held) { stopped = Some (name, words) }

stays_stopped : (name : Text) (before words : List Text) → fold (walked [] modes) (stopped_at name before) words ≡ stopped_at name (before ++ words)
unfolding walked
stays_stopped name before [] = ap (stopped_at name) (sym (append-nil before))
stays_stopped name before (word ∷ words) = stays_stopped name (before ++ word ∷ []) words ∙ ap (stopped_at name) (append_assoc before (word ∷ []) words)

stays_fine : (name : Text) (before words : List Text) → walk_fault top_ready modes (stopped_at name before) words ≡ []
unfolding walk_fault walked
stays_fine name before [] = refl
stays_fine name before (word ∷ words) = stays_fine name (before ++ word ∷ []) words

-- the mode is met by its name
record IsMode (name : Text) (names : List Text) : Type 0 where
  goes : walked [] modes (walk_from nothing_held) name ≡ stopped_at name []
  fine : turn_fault top_ready modes (walk_from nothing_held) name ≡ []
  enters : (words : List Text) → entered built_app (Some (name, words)) ≡ Some (name, rows_after (rules_ready names) [] words)
  fails : (words : List Text) → entered_fault built_app (Some (name, words)) ≡ level name names words

check_mode : IsMode (codes "check") []
unfolding walked
check_mode = record { goes = refl; fine = refl; enters = λ words. refl; fails = λ words. refl }

query_mode : IsMode (codes "query") []
unfolding walked
query_mode = record { goes = refl; fine = refl; enters = λ words. refl; fails = λ words. refl }

show_mode : IsMode (codes "show") size_options
unfolding walked
show_mode = record { goes = refl; fine = refl; enters = λ words. refl; fails = λ words. refl }

module _ (name : Text) (names : List Text) (is : IsMode name names) (program : Text) (words : List Text) where
  walk_is : walk [] modes nothing_held (name ∷ words) ≡ stopped_at name words
  walk_is = ap (λ w. fold (walked [] modes) w words) is.goes ∙ stays_stopped name [] words

  walk_fine : walk_fault top_ready modes (walk_from nothing_held) (name ∷ words) ≡ []
  unfolding walk_fault
  walk_fine = ap₂ (λ turn w. or_else turn (walk_fault top_ready modes w words)) is.fine is.goes ∙ stays_fine name [] words

  mode_met : subcommand_of command_app (program ∷ name ∷ words) ≡ Some (name, rows_after (rules_ready names) [] words)
  mode_met = ap (λ w. entered built_app w.stopped) walk_is ∙ is.enters words

  mode_fault : fault_of command_app (program ∷ name ∷ words) ≡ level name names words
  unfolding defaults_fault
  mode_fault = ap₂ by_walk walk_fine walk_is
      ∙ ap₂ (λ below met. or_else below (check_fault top_ready [] (is_some met))) (is.fails words) (is.enters words)
      ∙ or_else-none (level name names words)

  mode_judged : (task : Option Task) → Judged (level name names words) (Some (name, rows_after (rules_ready names) [] words)) task
      → Judged (fault_of command_app (program ∷ name ∷ words)) (subcommand_of command_app (program ∷ name ∷ words)) task
  mode_judged task judged = subst (λ kinds. Judged kinds (subcommand_of command_app (program ∷ name ∷ words)) task) (sym mode_fault)
      (subst (λ met. Judged (level name names words) met task) (sym mode_met) judged)

-- where no words are asked for nothing, it doesn't matter that there are none
unwrapped : (asks : List Text → Option Task) (others : Option (List Text)) → asks [] ≡ None → option_and_then asks others ≡ asks (unwrap_or others [])
unwrapped asks None none = sym none
unwrapped asks (Some others) none = refl

agreed : (names : List Text) (name : Text) (fault : Kinds) (rows : List Row) (seen : Option Given) (asks : Given → Option Task) → Agrees names fault rows seen
    → ((found : Given) → Found names rows found → asked_by name rows ≡ asks found) → Judged fault (Some (name, rows)) (option_and_then asks seen)
agreed names name [] rows None asks agrees same = absurd agrees
agreed names name [] rows (Some found) asks agrees same = same found agrees
agreed names name (k ∷ ks) rows None asks agrees same = refl
agreed names name (k ∷ ks) rows (Some found) asks agrees same = absurd agrees

module _ (program : Text) (words : List Text) (begin : BeginChars words) where
  judged_check : Judged (fault_of command_app (program ∷ codes "check" ∷ words)) (subcommand_of command_app (program ∷ codes "check" ∷ words)) (asked (program ∷ codes "check" ∷ words))
  judged_check = mode_judged (codes "check") [] check_mode program words _
      (agreed [] (codes "check") (level (codes "check") [] words) (rows_after (rules_ready []) [] words) (given [] words) (λ found. checks found.others) (mode_agrees (codes "check") [] refl words begin)
      (λ found is. unwrapped checks (all_of words_id (rows_after (rules_ready []) [] words)) refl ∙ ap checks is.others))

  judged_query : Judged (fault_of command_app (program ∷ codes "query" ∷ words)) (subcommand_of command_app (program ∷ codes "query" ∷ words)) (asked (program ∷ codes "query" ∷ words))
  judged_query = mode_judged (codes "query") [] query_mode program words _
      (agreed [] (codes "query") (level (codes "query") [] words) (rows_after (rules_ready []) [] words) (given [] words) (λ found. queries found.others) (mode_agrees (codes "query") [] refl words begin)
      (λ found is. unwrapped queries (all_of words_id (rows_after (rules_ready []) [] words)) refl ∙ ap queries is.others))

  judged_show : Judged (fault_of command_app (program ∷ codes "show" ∷ words)) (subcommand_of command_app (program ∷ codes "show" ∷ words)) (asked (program ∷ codes "show" ∷ words))
  judged_show = mode_judged (codes "show") size_options show_mode program words _
      (agreed size_options (codes "show") (level (codes "show") size_options words) (rows_after (rules_ready size_options) [] words) (given size_options words)
      (λ found. shows found.others (value_of_option (codes "width") found) (value_of_option (codes "height") found)) (mode_agrees (codes "show") size_options refl words begin)
      (λ found is. unwrapped (λ others. shows others (first_of (codes "width") rows) (first_of (codes "height") rows)) (all_of words_id rows) refl ∙ ap (λ others. shows others (first_of (codes "width") rows) (first_of (codes "height") rows)) is.others
      ∙ ap₂ (shows found.others) (first_is size_options rows found (codes "width") is refl) (first_is size_options rows found (codes "height") is refl)))
    where
      rows : List Row
      rows = rows_after (rules_ready size_options) [] words

-- ---- a first word that is no mode

abbrev AtFault : Kinds → Type 0
AtFault [] = ⊥
AtFault (k ∷ ks) = Unit {0}

AtFault-front : (fault next : Kinds) → AtFault fault → AtFault (or_else fault next)
AtFault-front [] next at = absurd at
AtFault-front (k ∷ ks) next at = tt

AtFault-judged : (fault : Kinds) (met : Option (Text × List Row)) (task : Option Task) → AtFault fault → task ≡ None → Judged fault met task
AtFault-judged [] met task at none = absurd at
AtFault-judged (k ∷ ks) met task at none = none

first_fault : (program mode : Text) (words : List Text) (k : ErrorKind) (ks : Kinds) → turn_fault top_ready modes (walk_from nothing_held) mode ≡ k ∷ ks → AtFault (fault_of command_app (program ∷ mode ∷ words))
unfolding walk_fault
first_fault program mode words k ks turns =
    AtFault-front (or_else (turn_fault top_ready modes (walk_from nothing_held) mode) (walk_fault top_ready modes (walked [] modes (walk_from nothing_held) mode) words)) _
    (AtFault-front (turn_fault top_ready modes (walk_from nothing_held) mode) _ (subst AtFault (sym turns) tt))

front : (a b c : Kinds) (k : ErrorKind) → a ≡ k ∷ c → or_else a b ≡ k ∷ c
front a b c k is = ap (λ kinds. or_else kinds b) is

top_flags : (y : ℕ) (ys : Text) (x : ℕ) → slice_get (chars (y ∷ ys)) 0 ≡ Some x → flags_fault [] false (length (y ∷ ys)) (y ∷ ys) 0 nothing_held ≡ kind.UnknownArgument ∷ []
unfolding flags_fault
top_flags y ys x first = rw first refl

top_short : (y : ℕ) (ys : Text) (x : ℕ) → y == 45 ≡ false → slice_get (chars (y ∷ ys)) 0 ≡ Some x → turn_fault top_ready modes (walk_from nothing_held) (45 ∷ y ∷ ys) ≡ kind.UnknownArgument ∷ []
top_short y ys x other first =
    let is_long : long_of (45 ∷ y ∷ ys) ≡ None = rw other refl in
    let is_short : short_of (45 ∷ y ∷ ys) ≡ Some (y ∷ ys) = rw other refl in
    let not_dashes : bytes_eq (45 ∷ y ∷ ys) (45 ∷ 45 ∷ []) ≡ false = rw other refl in
    front (word_fault top_ready modes false idle (45 ∷ y ∷ ys) nothing_held) _ [] kind.UnknownArgument
    (ap (λ b. if b then [] else flag_word_fault [] false (long_of (45 ∷ y ∷ ys)) (45 ∷ y ∷ ys) nothing_held) not_dashes
    ∙ ap (λ found. flag_word_fault [] false found (45 ∷ y ∷ ys) nothing_held) is_long
    ∙ ap (λ found. option_map_or (λ flags. bundle_fault [] false flags nothing_held) found []) is_short
    ∙ top_flags y ys x first)

no_mode : (mode : Text) → bytes_eq (codes "check") mode ≡ false → bytes_eq (codes "query") mode ≡ false → bytes_eq (codes "show") mode ≡ false
    → (program : Text) (words : List Text) → BeginsChar mode → AtFault (fault_of command_app (program ∷ mode ∷ words))
unfolding walk_fault walked defaults_fault
no_mode mode no_check no_query no_show program words begins = of (kind_of_word mode)
  where
    dashes : (words : List Text) → AtFault (fault_of command_app (program ∷ (45 ∷ 45 ∷ []) ∷ words))
    dashes [] = tt
    dashes (word ∷ words) = tt

    of : WordKind mode → AtFault (fault_of command_app (program ∷ mode ∷ words))
    of (Dashes is) = subst (λ m. AtFault (fault_of command_app (program ∷ m ∷ words))) (sym is) (dashes words)
    of (Long long) = subst (λ m. AtFault (fault_of command_app (program ∷ m ∷ words))) (sym long.is) (first_fault program (45 ∷ 45 ∷ long.z ∷ long.zs) words kind.UnknownArgument [] refl)
    of (Short short) = subst (λ m. AtFault (fault_of command_app (program ∷ m ∷ words))) (sym short.is)
        (let first = begins short.y short.ys short.is in first_fault program (45 ∷ short.y ∷ short.ys) words kind.UnknownArgument [] (top_short short.y short.ys first.0 short.other first.1))
    of (Plain is) = first_fault program mode words kind.UnknownArgument (kind.InvalidSubcommand ∷ [])
        (rw no_check (rw no_query (rw no_show (rw is.ends (rw is.long (rw is.short refl))))))

flip : (a b : Text) → bytes_eq a b ≡ false → bytes_eq b a ≡ false
flip a b apart = of (bytes_eq b a) refl
  where
    of : (c : Bool) → bytes_eq b a ≡ c → bytes_eq b a ≡ false
    of true is = absurd (true≢false (sym (bytes_eq-same a) ∙ ap (bytes_eq a) (sym (same_text b a is)) ∙ apart))
    of false is = is

-- what the command answers is what the words ask for
pub words_are_judged : (words : List Text) → BeginChars words → Judged (fault_of command_app words) (subcommand_of command_app words) (asked words)
unfolding walk_fault defaults_fault
words_are_judged [] begin = refl
words_are_judged (program ∷ []) begin = refl
words_are_judged (program ∷ mode ∷ words) begin = of (bytes_eq (codes "check") mode) refl (bytes_eq (codes "query") mode) refl (bytes_eq (codes "show") mode) refl
  where
    Goal : Text → Type 0
    Goal m = Judged (fault_of command_app (program ∷ m ∷ words)) (subcommand_of command_app (program ∷ m ∷ words)) (asked (program ∷ m ∷ words))

    of : (a : Bool) → bytes_eq (codes "check") mode ≡ a → (b : Bool) → bytes_eq (codes "query") mode ≡ b → (c : Bool) → bytes_eq (codes "show") mode ≡ c → Goal mode
    of true is b _ c _ = subst Goal (same_text (codes "check") mode is) (judged_check program words begin.1.1)
    of false _ true is c _ = subst Goal (same_text (codes "query") mode is) (judged_query program words begin.1.1)
    of false _ false _ true is = subst Goal (same_text (codes "show") mode is) (judged_show program words begin.1.1)
    of false a false b false c = AtFault-judged _ _ _ (no_mode mode a b c program words begin.1.0)
        (rw (flip (codes "show") mode c) (rw (flip (codes "check") mode a) (rw (flip (codes "query") mode b) refl)))

-- ---- what the getters give

found_row : (id : Text) (entries : List Entry) → find (λ r. bytes_eq r.id id) (map row_of entries) ≡ option_map row_of (find (λ e. bytes_eq e.0.now id) entries)
found_row id [] = refl
found_row id (e ∷ entries) = of (bytes_eq e.0.now id) refl (found_row id entries)
  where
    of : (b : Bool) → bytes_eq e.0.now id ≡ b → find (λ r. bytes_eq r.id id) (map row_of entries) ≡ option_map row_of (find (λ e. bytes_eq e.0.now id) entries)
        → find (λ r. bytes_eq r.id id) (map row_of (e ∷ entries)) ≡ option_map row_of (find (λ e. bytes_eq e.0.now id) (e ∷ entries))
    of true is rest = rw is refl
    of false is rest = rw is rest

first_text : (texts : List (Bor Text)) → option_map (λ s. s.now) (slice_get texts 0) ≡ slice_get (map (λ s. s.now) texts) 0
first_text [] = refl
first_text (text ∷ texts) = refl

pub first_value_is : (f : MatchesFound) (id : Text) → first_value f id ≡ first_of id (rows_of f)
first_value_is f id = of (find (λ e. bytes_eq e.0.now id) f.entries.items) ∙ sym (ap (option_and_then (λ r. slice_get r.values 0)) (found_row id f.entries.items))
  where
    of : (found : Option Entry) → option_and_then (λ a. option_map (λ s. s.now) (slice_get a.vals.items 0)) (option_map (λ e. e.1) found) ≡ option_and_then (λ r. slice_get r.values 0) (option_map row_of found)
    of None = refl
    of (Some e) = first_text e.1.vals.items

pub raw_values_are : (f : MatchesFound) (id : Text) → option_map raw_values (matched_of f id) ≡ all_of id (rows_of f)
raw_values_are f id = of (find (λ e. bytes_eq e.0.now id) f.entries.items) ∙ sym (ap (option_map (λ r. r.values)) (found_row id f.entries.items))
  where
    of : (found : Option Entry) → option_map raw_values (option_map (λ e. e.1) found) ≡ option_map (λ r. r.values) (option_map row_of found)
    of None = refl
    of (Some e) = refl

-- ---- the words of the program are text

no_text : (y : ℕ) (ys : Text) → IsUtf8 (45 ∷ y ∷ ys) → chars (y ∷ ys) ≡ [] → ⊥
unfolding chars lib.Utf8.encode
no_text y ys utf8 none =
    let alone : 45 ∷ [] ≡ 45 ∷ y ∷ ys = ap (λ cs. encode_utf8_all (45 ∷ cs)) (sym none) ∙ encodes-chars (45 ∷ y ∷ ys) utf8 in
    absurd (omega (arith, ap length alone))

begins_text : (word : Text) → IsUtf8 word → BeginsChar word
begins_text word utf8 y ys is = of (chars (y ∷ ys)) refl
  where
    of : (cs : Text) → chars (y ∷ ys) ≡ cs → (x : ℕ) × (slice_get (chars (y ∷ ys)) 0 ≡ Some x)
    of [] none = absurd (no_text y ys (subst IsUtf8 is utf8) none)
    of (x ∷ xs) some = (x, ap (λ cs. slice_get cs 0) some)

pub texts_begin : {A : Type 0} (bytes : A → Text) → ((text : A) → IsUtf8 (bytes text)) → (words : List A) → BeginChars (map bytes words)
texts_begin bytes are [] = tt
texts_begin bytes are (word ∷ words) = (begins_text (bytes word) (are word), texts_begin bytes are words)

pub is_judgeable : is_simple_and_free command_app ≡ true
is_judgeable = refl

pub judged_fine : (words : List Text) → BeginChars words → fault_of command_app words ≡ [] → asked_in (subcommand_of command_app words) ≡ asked words
judged_fine words begin fine = subst (λ kinds. Judged kinds (subcommand_of command_app words) (asked words)) fine (words_are_judged words begin)

pub judged_faulty : (words : List Text) (k : ErrorKind) → BeginChars words → IsAmong k (fault_of command_app words) → asked words ≡ None
judged_faulty words k begin among = of (fault_of command_app words) among (words_are_judged words begin)
  where
    of : (kinds : Kinds) → IsAmong k kinds → Judged kinds (subcommand_of command_app words) (asked words) → asked words ≡ None
    of [] among judged = absurd among
    of (first ∷ rest) among judged = judged
