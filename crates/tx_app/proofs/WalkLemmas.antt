-- The walk over the words of a mode: it ends without a fault exactly where the words are accepted, and then the rows hold
-- what they give.
use Rattle.std.proofs.Common.{◌≡◌, ℕ, Bool, true, false, List, [], ◌∷◌, fold, length, Option, None, Some, refl, ap, ap₂, sym, ◌∙◌, subst, option_map, option_and_then, if◌then◌else◌, ◌==◌, ◌&&◌, append_assoc, append-nil, arith}
use Rattle.std.proofs.lemmas.Bool.Decides.{nat_tests}
use Rattle.std.specs.Prelude.{slice_get}
use Rattle.std.specs.Option.{option_map_or}
use Rattle.std.specs.Str.{bytes_eq, chars}
use Rattle.clap.specs.Lexer.{long_of, short_of}
use Rattle.clap.specs.Walk.{Held, Row, Rule, Text, Walk, Waiting, idle, option, positional, settled, subcommand_met, used, walked, is_pending}
use Rattle.clap.specs.Simple.{Shape, new_shape}
use Rattle.clap.specs.Kinds.{Kinds, or_else}
use Rattle.clap.specs.Faults.{settle_fault, use_fault, walk_fault, turn_fault, flags_fault, flag_word_fault, bundle_fault, word_fault, other_fault}
use Rattle.clap.specs.declared.error.kind.ErrorKind.{ErrorKind}
use Rattle.clap.specs.declared.error.kind.ErrorKind.TheVariants as kind
use Rattle.tx_app.specs.CommandLine.{words_id}
use Rattle.tx_app.specs.Words.{Given, is_among, with_option, with_others, is_hyphenated, halves_of, given_after, option_met}
use Rattle.tx_app.proofs.RowLemmas.{bytes_eq-same}
use Rattle.tx_app.proofs.GivenLemmas.{option_ready, words_ready, rules_ready, by_long, by_id, by_words, by_short, by_index, Found, Agrees, Agrees-then, use_option, use_word}

-- ---- small facts

pub or_else-none : (kinds : Kinds) → or_else kinds [] ≡ kinds
or_else-none [] = refl
or_else-none (k ∷ ks) = refl

pub or_else-three : (a b c : Kinds) → or_else (or_else a b) c ≡ or_else a (or_else b c)
or_else-three [] b c = refl
or_else-three (k ∷ ks) b c = refl

and-false : (b : Bool) → (b && false) ≡ false
and-false true = refl
and-false false = refl

-- ---- what a word is

-- the rest of a word that begins with a hyphen begins with a character
abbrev pub BeginsChar : Text → Type 0
BeginsChar word = (y : ℕ) (ys : Text) → word ≡ 45 ∷ y ∷ ys → (x : ℕ) × (slice_get (chars (y ∷ ys)) 0 ≡ Some x)

abbrev pub BeginChars : List Text → Type 0
BeginChars [] = Unit {0}
BeginChars (word ∷ words) = BeginsChar word × BeginChars words

pub record IsShort (word : Text) : Type 0 where
  pub y : ℕ
  pub ys : Text
  pub is : word ≡ 45 ∷ y ∷ ys
  pub other : y == 45 ≡ false

pub record IsLong (word : Text) : Type 0 where
  pub z : ℕ
  pub zs : Text
  pub is : word ≡ 45 ∷ 45 ∷ z ∷ zs

pub record IsOther (word : Text) : Type 0 where
  pub hyphenated : is_hyphenated word ≡ false
  pub ends : bytes_eq word (45 ∷ 45 ∷ []) ≡ false
  pub long : long_of word ≡ None
  pub short : short_of word ≡ None

pub data WordKind (word : Text) : Type 0 where
  Dashes : word ≡ 45 ∷ 45 ∷ [] → WordKind word
  Long : IsLong word → WordKind word
  Short : IsShort word → WordKind word
  Plain : IsOther word → WordKind word

eq_same : (x y : ℕ) → x == y ≡ true → x ≡ y
eq_same x y is = grind (arith, nat_tests)

pub kind_of_word : (word : Text) → WordKind word
kind_of_word [] = Plain (record { hyphenated = refl; ends = refl; long = refl; short = refl })
kind_of_word (x ∷ []) = of (x == 45) refl
  where
    of : (b : Bool) → x == 45 ≡ b → WordKind (x ∷ [])
    of true is = Plain (record { hyphenated = refl; ends = rw is refl; long = rw is refl; short = rw is refl })
    of false is = Plain (record { hyphenated = refl; ends = rw is refl; long = rw is refl; short = rw is refl })
kind_of_word (x ∷ y ∷ rest) = of (x == 45) refl (y == 45) refl rest
  where
    of : (b : Bool) → x == 45 ≡ b → (c : Bool) → y == 45 ≡ c → (rest : Text) → WordKind (x ∷ y ∷ rest)
    of false is c at rest = Plain (record { hyphenated = is; ends = rw is refl; long = rw is refl; short = rw is refl })
    of true is false at rest = Short (record { y = y; ys = rest; is = ap (λ t. t ∷ y ∷ rest) (eq_same x 45 is); other = at })
    of true is true at [] = Dashes (ap₂ (λ s t. s ∷ t ∷ []) (eq_same x 45 is) (eq_same y 45 at))
    of true is true at (z ∷ zs) = Long (record { z = z; zs = zs; is = ap₂ (λ s t. s ∷ t ∷ z ∷ zs) (eq_same x 45 is) (eq_same y 45 at) })

-- ---- a mode that is built

abbrev pub ready : Text → List Text → Shape
ready mode names = record (new_shape mode) { rules = rules_ready names; disable_help_flag = true; disable_help_subcommand = true; disable_version_flag = true; is_built = true }

abbrev pub holding : List Row → Option (Text × List Text) → Held
holding rows pending = record { rows = rows; pending = pending; skip = 0 }

abbrev pub standing : Held → Waiting → Bool → Walk
standing held waiting trailing = record { held = held; waiting = waiting; position = 1; is_trailing = trailing; stopped = None }

-- nothing waits for a value
abbrev pub IsIdle : Waiting → Type 0
IsIdle idle = Unit {0}
IsIdle (option name) = ⊥
IsIdle positional = Unit {0}

module _ (mode : Text) (names : List Text) (apart : is_among words_id names ≡ false) where
  abbrev pub shape : Shape
  shape = ready mode names

  abbrev pub rules : List Rule
  rules = rules_ready names

  abbrev pub ended : Walk → List Text → Held
  ended w words = (fold (walked rules []) w words).held

  -- the faults of the walk and of the use that is left at its end
  abbrev pub faults : Walk → List Text → Kinds
  faults w words = or_else (walk_fault shape [] w words) (settle_fault rules false (ended w words))

  abbrev pub rows_at_end : Walk → List Text → List Row
  rows_at_end w words = (settled rules (ended w words)).rows

  -- what is held agrees with what was given
  abbrev pub Holds : Held → Option Given → Type 0
  Holds h seen = Agrees names (settle_fault rules false h) (settled rules h).rows seen

  abbrev pub Ends : Walk → List Text → Option Given → Type 0
  Ends w words seen = Agrees names (faults w words) (rows_at_end w words) seen

  -- one more word
  one_more : (w next : Walk) (word : Text) (rest : List Text) (fault : Kinds) (seen : Option Given)
      → turn_fault shape [] w word ≡ fault → walked rules [] w word ≡ next
      → Agrees names (or_else fault (faults next rest)) (rows_at_end next rest) seen → Ends w (word ∷ rest) seen
  unfolding walk_fault
  one_more w next word rest fault seen turns goes ends =
      subst (λ kinds. Agrees names kinds (rows_at_end w (word ∷ rest)) seen) (sym (or_else-three (turn_fault shape [] w word) (walk_fault shape [] (walked rules [] w word) rest) (settle_fault rules false (ended w (word ∷ rest)))))
      (subst (λ v. Agrees names (or_else (turn_fault shape [] w word) (faults v rest)) (rows_at_end v rest) seen) (sym goes)
      (subst (λ kinds. Agrees names (or_else kinds (faults next rest)) (rows_at_end next rest) seen) (sym turns) ends))

  -- a word that is at fault
  faulty : (w : Walk) (word : Text) (rest : List Text) (k : ErrorKind) (ks : Kinds) → turn_fault shape [] w word ≡ k ∷ ks → Ends w (word ∷ rest) None
  faulty w word rest k ks turns = one_more w (walked rules [] w word) word rest (k ∷ ks) None turns refl tt

  -- a use of a word that is no option
  Holds-word : (word : Text) (rows : List Row) (seen : Given) → Found names rows seen → Holds (holding rows (Some (words_id, word ∷ []))) (Some (with_others (word ∷ []) seen))
  Holds-word word rows seen found = rw (by_words names apart) (use_word names words_id word rows seen found apart)

  Holds-option : (name value : Text) (rows : List Row) (seen : Given) → is_among name names ≡ true → Found names rows seen → Holds (holding rows (Some (name, value ∷ []))) (with_option name value seen)
  Holds-option name value rows seen among found = rw (by_id names name among) (use_option names name value rows seen found apart among)

  -- an option without its value
  waits-fault : (name : Text) (rows : List Row) → is_among name names ≡ true → settle_fault rules false (holding rows (Some (name, []))) ≡ kind.InvalidValue ∷ []
  waits-fault name rows among = rw (by_id names name among) refl

  -- a word for a positional
  positional_turn : (h : Held) (waiting : Waiting) (word : Text) → turn_fault shape [] (standing h waiting true) word ≡ settle_fault rules false h
  positional_turn h waiting word = rw (by_index names) (rw (and-false (is_pending words_ready h.pending)) refl)

  positional_walked : (h : Held) (waiting : Waiting) (word : Text) → h.skip ≡ 0
      → walked rules [] (standing h waiting true) word ≡ standing (holding (settled rules h).rows (Some (words_id, word ∷ []))) positional true
  unfolding walked
  positional_walked h waiting word plain = rw (by_index names) (rw (and-false (is_pending words_ready h.pending)) (rw plain refl))

  -- ---- after `--`
  trails : (words : List Text) (h : Held) (waiting : Waiting) (seen : Option Given) → h.skip ≡ 0 → Holds h seen → Ends (standing h waiting true) words (option_map (with_others words) seen)
  unfolding walk_fault
  trails [] h waiting None plain holds = holds
  trails [] h waiting (Some seen) plain holds = subst (Agrees names (settle_fault rules false h) (settled rules h).rows) (ap (λ others. Some (record seen { others = others })) (sym (append-nil seen.others))) holds
  trails (word ∷ rest) h waiting seen plain holds =
      let next : Walk = standing (holding (settled rules h).rows (Some (words_id, word ∷ []))) positional true in
      one_more (standing h waiting true) next word rest (settle_fault rules false h) _ (positional_turn h waiting word) (positional_walked h waiting word plain)
      (subst (Agrees names (or_else (settle_fault rules false h) (faults next rest)) (rows_at_end next rest)) (all seen)
      (Agrees-then names (settle_fault rules false h) (faults next rest) (settled rules h).rows (rows_at_end next rest) seen (λ found. option_map (with_others rest) (Some (with_others (word ∷ []) found))) holds
      (λ found is. trails rest (holding (settled rules h).rows (Some (words_id, word ∷ []))) positional (Some (with_others (word ∷ []) found)) refl (Holds-word word (settled rules h).rows found is))))
    where
      all : (seen : Option Given) → option_and_then (λ found. option_map (with_others rest) (Some (with_others (word ∷ []) found))) seen ≡ option_map (with_others (word ∷ rest)) seen
      all None = refl
      all (Some found) = ap (λ others. Some (record found { others = others })) (append_assoc found.others (word ∷ []) rest)

  -- ---- before it

  -- a word where nothing waits
  abbrev pub goes_on : List Text → Given → Option Given
  goes_on words = given_after names words None

  -- refused by the words themselves
  refuses : (word : Text) (rest : List Text) (seen : Option Given) → ((found : Given) → given_after names (word ∷ rest) None found ≡ None) → option_and_then (goes_on (word ∷ rest)) seen ≡ None
  refuses word rest None none = refl
  refuses word rest (Some found) none = none found

  refused : (w : Walk) (word : Text) (rest : List Text) (k : ErrorKind) (ks : Kinds) (seen : Option Given) → turn_fault shape [] w word ≡ k ∷ ks
      → seen ≡ None → Ends w (word ∷ rest) seen
  refused w word rest k ks seen turns none = subst (Ends w (word ∷ rest)) (sym none) (faulty w word rest k ks turns)

  met-none : (waiting : Waiting) (word : Text) → subcommand_met [] waiting word ≡ None
  met-none idle word = refl
  met-none (option name) word = refl
  met-none positional word = refl

  -- `-x`
  flags_of_short : (rows : List Row) (pending : Option (Text × List Text)) (y : ℕ) (ys : Text) (x : ℕ) → slice_get (chars (y ∷ ys)) 0 ≡ Some x
      → flags_fault rules false (length (y ∷ ys)) (y ∷ ys) 0 (holding rows pending) ≡ kind.UnknownArgument ∷ []
  unfolding flags_fault
  flags_of_short rows pending y ys x first = rw first (rw (by_short names x) refl)

  short_word : (h : Held) (y : ℕ) (ys : Text) (x : ℕ) → h.skip ≡ 0 → y == 45 ≡ false → slice_get (chars (y ∷ ys)) 0 ≡ Some x
      → flag_word_fault rules false (long_of (45 ∷ y ∷ ys)) (45 ∷ y ∷ ys) h ≡ kind.UnknownArgument ∷ []
  short_word h y ys x plain other first =
      let is_long : long_of (45 ∷ y ∷ ys) ≡ None = rw other refl in
      let is_short : short_of (45 ∷ y ∷ ys) ≡ Some (y ∷ ys) = rw other refl in
      ap (λ found. flag_word_fault rules false found (45 ∷ y ∷ ys) h) is_long
      ∙ ap (λ found. option_map_or (λ flags. bundle_fault rules false flags h) found []) is_short
      ∙ ap (λ skip. flags_fault rules false (length (y ∷ ys)) (y ∷ ys) skip (holding h.rows h.pending)) plain
      ∙ flags_of_short h.rows h.pending y ys x first

  pub or_else-front : (a b c : Kinds) (k : ErrorKind) → a ≡ k ∷ c → or_else a b ≡ k ∷ c
  or_else-front a b c k is = ap (λ kinds. or_else kinds b) is

  short_turn : (h : Held) (waiting : Waiting) (y : ℕ) (ys : Text) (x : ℕ) → h.skip ≡ 0 → y == 45 ≡ false → slice_get (chars (y ∷ ys)) 0 ≡ Some x
      → turn_fault shape [] (standing h waiting false) (45 ∷ y ∷ ys) ≡ kind.UnknownArgument ∷ []
  short_turn h waiting y ys x plain other first =
      let not_dashes : bytes_eq (45 ∷ y ∷ ys) (45 ∷ 45 ∷ []) ≡ false = rw other refl in
      or_else-front (word_fault shape [] false waiting (45 ∷ y ∷ ys) h) _ [] kind.UnknownArgument
      (ap (λ met. other_fault shape met (45 ∷ y ∷ ys) h) (met-none waiting (45 ∷ y ∷ ys))
      ∙ ap (λ b. if b then [] else flag_word_fault rules false (long_of (45 ∷ y ∷ ys)) (45 ∷ y ∷ ys) h) not_dashes
      ∙ short_word h y ys x plain other first)

  short_given : (y : ℕ) (ys : Text) (rest : List Text) (found : Given) → y == 45 ≡ false → given_after names ((45 ∷ y ∷ ys) ∷ rest) None found ≡ None
  unfolding given_after
  short_given y ys rest found other = rw other refl

  -- `--name` and `--name=value`
  abbrev name_in : ℕ → Text → Text
  name_in z zs = (halves_of (z ∷ zs)).0

  abbrev value_in : ℕ → Text → Option Text
  value_in z zs = (halves_of (z ∷ zs)).1

  abbrev long_word : ℕ → Text → Text
  long_word z zs = 45 ∷ 45 ∷ z ∷ zs

  long_unknown : (h : Held) (waiting : Waiting) (z : ℕ) (zs : Text) → is_among (name_in z zs) names ≡ false
      → turn_fault shape [] (standing h waiting false) (long_word z zs) ≡ kind.UnknownArgument ∷ []
  long_unknown h waiting z zs unknown = rw (met-none waiting (long_word z zs)) (rw (by_long names (name_in z zs)) (rw unknown refl))

  long_value : (h : Held) (waiting : Waiting) (z : ℕ) (zs value : Text) → is_among (name_in z zs) names ≡ true → value_in z zs ≡ Some value
      → turn_fault shape [] (standing h waiting false) (long_word z zs) ≡ or_else (settle_fault rules false h) (use_fault false (option_ready (name_in z zs)) (value ∷ []) (settled rules h).rows)
  long_value h waiting z zs value known is = rw (met-none waiting (long_word z zs)) (rw (by_long names (name_in z zs)) (rw known (rw is (or_else-none _))))

  long_alone : (h : Held) (waiting : Waiting) (z : ℕ) (zs : Text) → is_among (name_in z zs) names ≡ true → value_in z zs ≡ None
      → turn_fault shape [] (standing h waiting false) (long_word z zs) ≡ settle_fault rules false h
  long_alone h waiting z zs known is = rw (met-none waiting (long_word z zs)) (rw (by_long names (name_in z zs)) (rw known (rw is (or_else-none _))))

  value_walked : (h : Held) (waiting : Waiting) (z : ℕ) (zs value : Text) → h.skip ≡ 0 → is_among (name_in z zs) names ≡ true → value_in z zs ≡ Some value
      → walked rules [] (standing h waiting false) (long_word z zs) ≡ standing (holding (used (option_ready (name_in z zs)) (value ∷ []) (settled rules h).rows) None) idle false
  unfolding walked
  value_walked h waiting z zs value plain known is = rw (met-none waiting (long_word z zs)) (rw (by_long names (name_in z zs)) (rw known (rw is (rw plain refl))))

  alone_walked : (h : Held) (waiting : Waiting) (z : ℕ) (zs : Text) → h.skip ≡ 0 → is_among (name_in z zs) names ≡ true → value_in z zs ≡ None
      → walked rules [] (standing h waiting false) (long_word z zs) ≡ standing (holding (settled rules h).rows (Some (name_in z zs, []))) (option (name_in z zs)) false
  unfolding walked
  alone_walked h waiting z zs plain known is = rw (met-none waiting (long_word z zs)) (rw (by_long names (name_in z zs)) (rw known (rw is (rw plain refl))))

  long_given : (z : ℕ) (zs : Text) (rest : List Text) (found : Given)
      → given_after names (long_word z zs ∷ rest) None found ≡ option_met names (Some (halves_of (z ∷ zs))) found (given_after names rest)
  unfolding given_after
  long_given z zs rest found = refl

  -- `--`
  dashes_turn : (h : Held) (waiting : Waiting) → turn_fault shape [] (standing h waiting false) (45 ∷ 45 ∷ []) ≡ []
  dashes_turn h waiting = rw (met-none waiting (45 ∷ 45 ∷ [])) refl

  dashes_walked : (h : Held) (waiting : Waiting) → walked rules [] (standing h waiting false) (45 ∷ 45 ∷ []) ≡ standing h waiting true
  unfolding walked
  dashes_walked h waiting = rw (met-none waiting (45 ∷ 45 ∷ [])) refl

  dashes_given : (rest : List Text) (found : Given) → given_after names ((45 ∷ 45 ∷ []) ∷ rest) None found ≡ Some (with_others rest found)
  unfolding given_after
  dashes_given rest found = refl

  -- another word, where nothing waits
  plain_turn : (h : Held) (waiting : Waiting) (word : Text) → IsIdle waiting → IsOther word → turn_fault shape [] (standing h waiting false) word ≡ settle_fault rules false h
  plain_turn h idle word at is = rw is.ends (rw is.long (rw is.short (rw (by_index names) (rw (and-false (is_pending words_ready h.pending)) refl))))
  plain_turn h (option name) word at is = absurd at
  plain_turn h positional word at is = rw is.ends (rw is.long (rw is.short (rw (by_index names) (rw (and-false (is_pending words_ready h.pending)) refl))))

  plain_walked : (h : Held) (waiting : Waiting) (word : Text) → h.skip ≡ 0 → IsIdle waiting → IsOther word
      → walked rules [] (standing h waiting false) word ≡ standing (holding (settled rules h).rows (Some (words_id, word ∷ []))) positional false
  unfolding walked
  plain_walked h idle word plain at is = rw is.ends (rw is.long (rw is.short (rw (by_index names) (rw (and-false (is_pending words_ready h.pending)) (rw plain refl)))))
  plain_walked h (option name) word plain at is = absurd at
  plain_walked h positional word plain at is = rw is.ends (rw is.long (rw is.short (rw (by_index names) (rw (and-false (is_pending words_ready h.pending)) (rw plain refl)))))

  plain_given : (word : Text) (rest : List Text) (found : Given) → IsOther word → given_after names (word ∷ rest) None found ≡ given_after names rest None (with_others (word ∷ []) found)
  unfolding given_after
  plain_given word rest found is = rw is.ends (rw is.hyphenated refl)

  -- a word that is the value of an option
  value_turn : (name : Text) (rows : List Row) (word : Text) → IsOther word → turn_fault shape [] (standing (holding rows (Some (name, []))) (option name) false) word ≡ []
  value_turn name rows word is = rw is.ends (rw is.long (rw is.short refl))

  value_goes : (name : Text) (rows : List Row) (word : Text) → is_among name names ≡ true → IsOther word
      → walked rules [] (standing (holding rows (Some (name, []))) (option name) false) word ≡ standing (holding rows (Some (name, word ∷ []))) idle false
  unfolding walked
  value_goes name rows word among is = rw is.ends (rw is.long (rw is.short (rw (by_id names name among) (rw (bytes_eq-same name) refl))))

  value_given : (name : Text) (word : Text) (rest : List Text) (found : Given) → IsOther word
      → given_after names (word ∷ rest) (Some name) found ≡ option_and_then (goes_on rest) (with_option name word found)
  unfolding given_after
  value_given name word rest found is = rw is.hyphenated refl

  hyphenated_given : (name : Text) (word : Text) (rest : List Text) (found : Given) → is_hyphenated word ≡ true → given_after names (word ∷ rest) (Some name) found ≡ None
  unfolding given_after
  hyphenated_given name word rest found is = rw is refl

  no_words : (found : Given) → given_after names [] None found ≡ Some found
  unfolding given_after
  no_words found = refl

  no_value : (name : Text) (found : Given) → given_after names [] (Some name) found ≡ None
  unfolding given_after
  no_value name found = refl

  same-seen : (seen : Option Given) → option_and_then (goes_on []) seen ≡ seen
  same-seen None = refl
  same-seen (Some found) = no_words found

  with-all : (next goes : Given → Option Given) (seen : Option Given) → ((found : Given) → next found ≡ goes found) → option_and_then next seen ≡ option_and_then goes seen
  with-all next goes None same = refl
  with-all next goes (Some found) same = same found

  nest : (first next : Given → Option Given) (seen : Option Given) → option_and_then (λ found. option_and_then next (first found)) seen ≡ option_and_then next (option_and_then first seen)
  nest first next None = refl
  nest first next (Some found) = refl

  -- what is promised for these words
  pub record Walks (words : List Text) : Type 0 where
    pub free : (h : Held) (waiting : Waiting) (seen : Option Given) → h.skip ≡ 0 → IsIdle waiting → Holds h seen → Ends (standing h waiting false) words (option_and_then (goes_on words) seen)
    pub waits : (name : Text) (rows : List Row) (found : Given) → is_among name names ≡ true → Found names rows found
        → Ends (standing (holding rows (Some (name, []))) (option name) false) words (given_after names words (Some name) found)

  walks-none : Walks []
  unfolding walk_fault
  walks-none = record {
    free = λ h waiting seen plain at holds. subst (Agrees names (settle_fault rules false h) (settled rules h).rows) (sym (same-seen seen)) holds;
    waits = λ name rows found among is. rw (no_value name found) (rw (waits-fault name rows among) tt);
  }

  module _ (rest : List Text) (later : Walks rest) where
    -- `--`
    free_dashes : (h : Held) (waiting : Waiting) (seen : Option Given) → h.skip ≡ 0 → Holds h seen
        → Ends (standing h waiting false) ((45 ∷ 45 ∷ []) ∷ rest) (option_and_then (goes_on ((45 ∷ 45 ∷ []) ∷ rest)) seen)
    free_dashes h waiting seen plain holds =
        one_more (standing h waiting false) (standing h waiting true) (45 ∷ 45 ∷ []) rest [] _ (dashes_turn h waiting) (dashes_walked h waiting)
        (subst (Ends (standing h waiting true) rest) (same seen) (trails rest h waiting seen plain holds))
      where
        same : (seen : Option Given) → option_map (with_others rest) seen ≡ option_and_then (goes_on ((45 ∷ 45 ∷ []) ∷ rest)) seen
        same None = refl
        same (Some found) = sym (dashes_given rest found)

    -- another word
    free_plain : (word : Text) (h : Held) (waiting : Waiting) (seen : Option Given) → h.skip ≡ 0 → IsIdle waiting → Holds h seen → IsOther word
        → Ends (standing h waiting false) (word ∷ rest) (option_and_then (goes_on (word ∷ rest)) seen)
    free_plain word h waiting seen plain at holds is =
        let next : Held = holding (settled rules h).rows (Some (words_id, word ∷ [])) in
        one_more (standing h waiting false) (standing next positional false) word rest (settle_fault rules false h) _ (plain_turn h waiting word at is) (plain_walked h waiting word plain at is)
        (Agrees-then names (settle_fault rules false h) (faults (standing next positional false) rest) (settled rules h).rows (rows_at_end (standing next positional false) rest) seen (goes_on (word ∷ rest)) holds
        (λ found was. subst (Ends (standing next positional false) rest) (sym (plain_given word rest found is))
        (later.free next positional (Some (with_others (word ∷ []) found)) refl tt (Holds-word word (settled rules h).rows found was))))

    -- `--name=value`
    free_value : (z : ℕ) (zs value : Text) (h : Held) (waiting : Waiting) (seen : Option Given) → h.skip ≡ 0 → Holds h seen → is_among (name_in z zs) names ≡ true → value_in z zs ≡ Some value
        → Ends (standing h waiting false) (long_word z zs ∷ rest) (option_and_then (goes_on (long_word z zs ∷ rest)) seen)
    free_value z zs value h waiting seen plain holds known is =
        let name : Text = name_in z zs in
        let rows : List Row = used (option_ready name) (value ∷ []) (settled rules h).rows in
        let uses : Kinds = use_fault false (option_ready name) (value ∷ []) (settled rules h).rows in
        let next : Walk = standing (holding rows None) idle false in
        one_more (standing h waiting false) next (long_word z zs) rest (or_else (settle_fault rules false h) uses) _ (long_value h waiting z zs value known is) (value_walked h waiting z zs value plain known is)
        (subst (λ kinds. Agrees names kinds (rows_at_end next rest) (option_and_then (goes_on (long_word z zs ∷ rest)) seen)) (sym (or_else-three (settle_fault rules false h) uses (faults next rest)))
        (Agrees-then names (settle_fault rules false h) (or_else uses (faults next rest)) (settled rules h).rows (rows_at_end next rest) seen (goes_on (long_word z zs ∷ rest)) holds
        (λ found was. subst (Agrees names (or_else uses (faults next rest)) (rows_at_end next rest)) (sym (given_is found))
        (Agrees-then names uses (faults next rest) rows (rows_at_end next rest) (with_option name value found) (goes_on rest) (use_option names name value (settled rules h).rows found was apart known)
        (λ more have. later.free (holding rows None) idle (Some more) refl tt have)))))
      where
        given_is : (found : Given) → goes_on (long_word z zs ∷ rest) found ≡ option_and_then (goes_on rest) (with_option (name_in z zs) value found)
        given_is found = long_given z zs rest found ∙ rw is (rw known refl)

    -- `--name`
    free_alone : (z : ℕ) (zs : Text) (h : Held) (waiting : Waiting) (seen : Option Given) → h.skip ≡ 0 → Holds h seen → is_among (name_in z zs) names ≡ true → value_in z zs ≡ None
        → Ends (standing h waiting false) (long_word z zs ∷ rest) (option_and_then (goes_on (long_word z zs ∷ rest)) seen)
    free_alone z zs h waiting seen plain holds known is =
        let name : Text = name_in z zs in
        let next : Walk = standing (holding (settled rules h).rows (Some (name, []))) (option name) false in
        one_more (standing h waiting false) next (long_word z zs) rest (settle_fault rules false h) _ (long_alone h waiting z zs known is) (alone_walked h waiting z zs plain known is)
        (Agrees-then names (settle_fault rules false h) (faults next rest) (settled rules h).rows (rows_at_end next rest) seen (goes_on (long_word z zs ∷ rest)) holds
        (λ found was. subst (Ends next rest) (sym (given_is found)) (later.waits name (settled rules h).rows found known was)))
      where
        given_is : (found : Given) → goes_on (long_word z zs ∷ rest) found ≡ given_after names rest (Some (name_in z zs)) found
        given_is found = long_given z zs rest found ∙ rw is (rw known refl)

    free_long : (z : ℕ) (zs : Text) (h : Held) (waiting : Waiting) (seen : Option Given) → h.skip ≡ 0 → Holds h seen
        → Ends (standing h waiting false) (long_word z zs ∷ rest) (option_and_then (goes_on (long_word z zs ∷ rest)) seen)
    free_long z zs h waiting seen plain holds = of (is_among (name_in z zs) names) refl (value_in z zs) refl
      where
        none : is_among (name_in z zs) names ≡ false → (value : Option Text) → value_in z zs ≡ value → (found : Given) → goes_on (long_word z zs ∷ rest) found ≡ None
        none unknown None is found = long_given z zs rest found ∙ rw is (rw unknown refl)
        none unknown (Some value) is found = long_given z zs rest found ∙ rw is (rw unknown refl)

        of : (b : Bool) → is_among (name_in z zs) names ≡ b → (value : Option Text) → value_in z zs ≡ value
            → Ends (standing h waiting false) (long_word z zs ∷ rest) (option_and_then (goes_on (long_word z zs ∷ rest)) seen)
        of true known None is = free_alone z zs h waiting seen plain holds known is
        of true known (Some value) is = free_value z zs value h waiting seen plain holds known is
        of false unknown value is =
            refused (standing h waiting false) (long_word z zs) rest kind.UnknownArgument [] _ (long_unknown h waiting z zs unknown) (refuses (long_word z zs) rest seen (none unknown value is))

    -- an option that waits for its value, and a word that begins with `-`
    waits_long : (z : ℕ) (zs name : Text) (rows : List Row) → is_among name names ≡ true → Ends (standing (holding rows (Some (name, []))) (option name) false) (long_word z zs ∷ rest) None
    waits_long z zs name rows among = of (is_among (name_in z zs) names) refl (value_in z zs) refl
      where
        h : Held
        h = holding rows (Some (name, []))

        of : (b : Bool) → is_among (name_in z zs) names ≡ b → (value : Option Text) → value_in z zs ≡ value → Ends (standing h (option name) false) (long_word z zs ∷ rest) None
        of true known None is = faulty (standing h (option name) false) (long_word z zs) rest kind.InvalidValue [] (long_alone h (option name) z zs known is ∙ waits-fault name rows among)
        of true known (Some value) is = faulty (standing h (option name) false) (long_word z zs) rest kind.InvalidValue []
            (long_value h (option name) z zs value known is ∙ ap (λ kinds. or_else kinds (use_fault false (option_ready (name_in z zs)) (value ∷ []) (settled rules h).rows)) (waits-fault name rows among))
        of false unknown value is = faulty (standing h (option name) false) (long_word z zs) rest kind.UnknownArgument [] (long_unknown h (option name) z zs unknown)

    free_word : (word : Text) → BeginsChar word → WordKind word → (h : Held) (waiting : Waiting) (seen : Option Given) → h.skip ≡ 0 → IsIdle waiting → Holds h seen
        → Ends (standing h waiting false) (word ∷ rest) (option_and_then (goes_on (word ∷ rest)) seen)
    free_word word begins (Dashes is) h waiting seen plain at holds =
        subst (λ w. Ends (standing h waiting false) (w ∷ rest) (option_and_then (goes_on (w ∷ rest)) seen)) (sym is) (free_dashes h waiting seen plain holds)
    free_word word begins (Long long) h waiting seen plain at holds =
        subst (λ w. Ends (standing h waiting false) (w ∷ rest) (option_and_then (goes_on (w ∷ rest)) seen)) (sym long.is) (free_long long.z long.zs h waiting seen plain holds)
    free_word word begins (Short short) h waiting seen plain at holds =
        let first = begins short.y short.ys short.is in
        subst (λ w. Ends (standing h waiting false) (w ∷ rest) (option_and_then (goes_on (w ∷ rest)) seen)) (sym short.is)
        (refused (standing h waiting false) (45 ∷ short.y ∷ short.ys) rest kind.UnknownArgument [] _ (short_turn h waiting short.y short.ys first.0 plain short.other first.1)
        (refuses (45 ∷ short.y ∷ short.ys) rest seen (λ found. short_given short.y short.ys rest found short.other)))
    free_word word begins (Plain is) h waiting seen plain at holds = free_plain word h waiting seen plain at holds is

    waits_word : (word : Text) → BeginsChar word → WordKind word → (name : Text) (rows : List Row) (found : Given) → is_among name names ≡ true → Found names rows found
        → Ends (standing (holding rows (Some (name, []))) (option name) false) (word ∷ rest) (given_after names (word ∷ rest) (Some name) found)
    waits_word word begins (Dashes is) name rows found among was =
        let h : Held = holding rows (Some (name, [])) in
        subst (λ w. Ends (standing h (option name) false) (w ∷ rest) (given_after names (w ∷ rest) (Some name) found)) (sym is)
        (rw (hyphenated_given name (45 ∷ 45 ∷ []) rest found refl)
        (one_more (standing h (option name) false) (standing h (option name) true) (45 ∷ 45 ∷ []) rest [] _ (dashes_turn h (option name)) (dashes_walked h (option name))
        (trails rest h (option name) None refl (rw (waits-fault name rows among) tt))))
    waits_word word begins (Long long) name rows found among was =
        subst (λ w. Ends (standing (holding rows (Some (name, []))) (option name) false) (w ∷ rest) (given_after names (w ∷ rest) (Some name) found)) (sym long.is)
        (rw (hyphenated_given name (long_word long.z long.zs) rest found refl) (waits_long long.z long.zs name rows among))
    waits_word word begins (Short short) name rows found among was =
        let first = begins short.y short.ys short.is in
        let h : Held = holding rows (Some (name, [])) in
        subst (λ w. Ends (standing h (option name) false) (w ∷ rest) (given_after names (w ∷ rest) (Some name) found)) (sym short.is)
        (rw (hyphenated_given name (45 ∷ short.y ∷ short.ys) rest found refl)
        (faulty (standing h (option name) false) (45 ∷ short.y ∷ short.ys) rest kind.UnknownArgument [] (short_turn h (option name) short.y short.ys first.0 refl short.other first.1)))
    waits_word word begins (Plain is) name rows found among was =
        let next : Walk = standing (holding rows (Some (name, word ∷ []))) idle false in
        subst (Ends (standing (holding rows (Some (name, []))) (option name) false) (word ∷ rest)) (sym (value_given name word rest found is))
        (one_more (standing (holding rows (Some (name, []))) (option name) false) next word rest [] _ (value_turn name rows word is) (value_goes name rows word among is)
        (later.free (holding rows (Some (name, word ∷ []))) idle (with_option name word found) refl tt (Holds-option name word rows found among was)))

  pub walks : (words : List Text) → BeginChars words → Walks words
  walks [] begin = walks-none
  walks (word ∷ rest) begin = record { free = free_word rest (walks rest begin.1) word begin.0 (kind_of_word word); waits = waits_word rest (walks rest begin.1) word begin.0 (kind_of_word word) }
