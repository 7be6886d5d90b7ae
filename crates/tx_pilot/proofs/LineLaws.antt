-- A line is read exactly as what it spells, and refused exactly for the first rule that it breaks.
use Rattle.std.proofs.lemmas.Bool.{false≢true, ltb-true, ltb-false, lt-ltb}
use Rattle.std.proofs.Common.{◌≡◌, ◌≢◌, ◌⊎◌, inl, inr, ℕ, ◌≤◌, Bool, true, false, cond, not, nat_lt, List, [], ◌∷◌, ◌++◌, length, Option, Some, None, Result, Ok, Err, IfOk, IfErr, refl, ap, sym, subst, ◌∙◌, arith}
use Rattle.std.specs.List.{list_all}
use Rattle.std.specs.Str.{is_utf8}
use Rattle.std.proofs.lemmas.Str.{is_utf8-from_IsUtf8, IsUtf8-nil}
use Rattle.tx_read.specs.Answer.{Gives}
use Rattle.tx_tree.specs.Spelled.{no_line_feed}
use Rattle.tx_tree_file.specs.Parts.{word, past_word}
use Rattle.tx_tree_file.specs.TreeReading.{is_empty}
use Rattle.tx_tree_file.proofs.lemmas.WordCuts.{none-some, word_split, find-found, all-behind}
use Rattle.tx_route.specs.declared.input.Input.{Input}
use Rattle.tx_pilot.specs.Laws.{LinesAreRead}
use Rattle.tx_pilot.specs.LineReading.{input_behind, input_by, input_of, some_input, line_of, told}
use Rattle.tx_pilot.specs.Lines.{IsPlace, IsLine, IsSound, Spells, KeyFault, NumberFault, TargetFault, InlineFault, RowFault, InTwo, PlaceFault, Fault, HasFault, IsOther, Breaks, IsFaultOf}
use Rattle.tx_pilot.specs.Words.{IsNumber, IsTarget}
use Rattle.tx_pilot.specs.Verbs.{verb_name, verbs, verb_named, verb_of}
use Rattle.tx_pilot.specs.declared.fault.LineFault.{LineFault}
use Rattle.tx_pilot.specs.declared.fault.LineFault.TheVariants.{Line, NoMemory}
use Rattle.tx_pilot.specs.declared.fault.LineKind.{LineKind}
use Rattle.tx_pilot.specs.declared.fault.LineKind.TheVariants.{TooMany, TooLong, BadByte, Expected, BadKey, BadNumber, BadSelector, BadInline}
use Rattle.tx_pilot.specs.declared.verb.Verb.{Verb}
use Rattle.tx_pilot.specs.declared.verb.Verb.TheVariants.{Press, Click, Hover, Pause, Resize, Class, Text, Style, Disable, Enable, Mount, Remove, Before, Advance, Theme}
use Rattle.tx_pilot.proofs.InputReaders.{begun, behind-found, behind-met, behind-meets, behind-blank, input-again}
use Rattle.tx_pilot.proofs.Steps.{ok-same, err-same, ok-err, err-ok, bind-ok}

-- ---- the first word

verb-found : (name : List ℕ) (verb : Verb) → verb_of name ≡ Some verb → name ≡ verb_name verb
verb-found name verb h = by (is_utf8 name) h
  where
    by : (b : Bool) → cond b (verb_named name) None ≡ Some verb → name ≡ verb_name verb
    by true g = find-found name verb_name verbs verb g
    by false g = none-some g

split : (line : List ℕ) (verb : Verb) → verb_of (word line) ≡ Some verb → line ≡ verb_name verb ++ past_word line
split line verb h = word_split line ∙ ap (λ (z : List ℕ). z ++ past_word line) (verb-found (word line) verb h)

whole-rest : (line name rest : List ℕ) → line ≡ name ++ rest → list_all no_line_feed line ≡ true → list_all no_line_feed rest ≡ true
whole-rest line name rest text h = all-behind no_line_feed name rest (ap (list_all no_line_feed) (sym text) ∙ h)

input-found : (line : List ℕ) (i : Input) → list_all no_line_feed line ≡ true → input_of line ≡ Ok i → IsLine line i
unfolding input_of
input-found line i whole h = by (verb_of (word line)) refl h
  where
    by : (o : Option Verb) → verb_of (word line) ≡ o → input_by o (past_word line) ≡ Ok i → IsLine line i
    by None e g = err-ok g
    by (Some verb) e g =
        let text = split line verb e in
        subst (λ (z : List ℕ). IsLine z i) (sym text) (behind-found verb (past_word line) i (whole-rest line (verb_name verb) (past_word line) text whole) g)

input-met : (line : List ℕ) (kind : LineKind) → IsSound line → input_of line ≡ Err kind → (kind ≡ Expected) ⊎ HasFault line kind
unfolding input_of
input-met line kind sound h = by (verb_of (word line)) refl h
  where
    put : (verb : Verb) → line ≡ verb_name verb ++ past_word line → (kind ≡ Expected) ⊎ Fault verb kind (past_word line) → (kind ≡ Expected) ⊎ HasFault line kind
    put verb text (inl e) = inl e
    put verb text (inr bad) = inr (record { sound = sound; verb = verb; rest = past_word line; text = text; fault = bad })

    by : (o : Option Verb) → verb_of (word line) ≡ o → input_by o (past_word line) ≡ Err kind → (kind ≡ Expected) ⊎ HasFault line kind
    by None e g = inl (sym (err-same g))
    by (Some verb) e g =
        let text = split line verb e in
        put verb text (behind-met verb (past_word line) kind (whole-rest line (verb_name verb) (past_word line) text sound.whole) g)

input-meets : (line : List ℕ) (kind : LineKind) → HasFault line kind → input_of line ≡ Err kind
input-meets line kind h =
    let (rest, blank) = behind-blank h.verb h.rest kind h.fault in
    ap input_of (h.text ∙ ap (λ (z : List ℕ). verb_name h.verb ++ z) blank)
    ∙ begun h.verb rest
    ∙ ap (input_behind h.verb) (sym blank)
    ∙ behind-meets h.verb h.rest kind h.fault

-- ---- the whole line

-- what is read of a line with so many bytes, which is UTF-8 and without a line feed, as these say
abbrev reads : List ℕ → Bool → Bool → Bool → Result (Option Input) LineKind
reads line long utf8 whole =
    cond long (Err TooLong) (cond (not utf8) (Err BadByte) (cond (not whole) (Err Expected) (cond (is_empty line) (Ok None) (some_input (input_of line)))))

as_reads : (line : List ℕ) → line_of line ≡ reads line (nat_lt 65536 (length line)) (is_utf8 line) (list_all no_line_feed line)
unfolding line_of
as_reads line = refl

reads-as : (line : List ℕ) (long utf8 whole : Bool) → nat_lt 65536 (length line) ≡ long → is_utf8 line ≡ utf8 → list_all no_line_feed line ≡ whole → line_of line ≡ reads line long utf8 whole
reads-as line long utf8 whole a b c =
    as_reads line
    ∙ ap (λ (x : Bool). reads line x (is_utf8 line) (list_all no_line_feed line)) a
    ∙ ap (λ (x : Bool). reads line long x (list_all no_line_feed line)) b
    ∙ ap (λ (x : Bool). reads line long utf8 x) c

few : (line : List ℕ) → length line ≤ 65536 → nat_lt 65536 (length line) ≡ false
few line h = by (nat_lt 65536 (length line)) refl
  where
    by : (b : Bool) → nat_lt 65536 (length line) ≡ b → nat_lt 65536 (length line) ≡ false
    by true e = let big = ltb-true 65536 (length line) e in absurd (omega (arith, h, big))
    by false e = e

filled : (line : List ℕ) → line ≢ [] → is_empty line ≡ false
filled [] h = absurd (h refl)
filled (byte ∷ bytes) h = refl

sound-read : (line : List ℕ) → IsSound line → line ≢ [] → line_of line ≡ some_input (input_of line)
sound-read line sound some =
    reads-as line false true true (few line sound.short) sound.utf8 sound.whole
    ∙ ap (λ (b : Bool). cond b (Ok None) (some_input (input_of line))) (filled line some)

nil-utf8 : is_utf8 [] ≡ true
nil-utf8 = is_utf8-from_IsUtf8 [] IsUtf8-nil

pub nothing-read : line_of [] ≡ Ok None
nothing-read = reads-as [] false true true refl nil-utf8 refl

no-verb : verb_of [] ≡ None
no-verb = ap (λ (b : Bool). cond b (verb_named []) None) nil-utf8

no-input : input_of [] ≡ Err Expected
unfolding input_of
no-input = ap (λ (o : Option Verb). input_by o []) no-verb

-- an input has a line
some-line : (line : List ℕ) (i : Input) → IsLine line i → line ≢ []
some-line line i is e = err-ok (sym no-input ∙ ap input_of (sym e) ∙ input-again line i is)

-- ---- faults of words have kinds of their own

abbrev is_of_word : LineKind → Bool
is_of_word BadKey = true
is_of_word BadNumber = true
is_of_word BadSelector = true
is_of_word BadInline = true
is_of_word kind = false

no-key : (kind : LineKind) (bytes : List ℕ) → is_of_word kind ≡ false → KeyFault kind bytes → ⊥
no-key BadKey bytes h bad = false≢true (sym h)
no-key kind bytes h bad = bad

no-number : (least most : ℕ) (kind : LineKind) (bytes : List ℕ) → is_of_word kind ≡ false → NumberFault least most kind bytes → ⊥
no-number least most BadNumber bytes h bad = false≢true (sym h)
no-number least most kind bytes h bad = bad

no-target : (kind : LineKind) (bytes : List ℕ) → is_of_word kind ≡ false → TargetFault kind bytes → ⊥
no-target BadSelector bytes h bad = false≢true (sym h)
no-target kind bytes h bad = bad

no-inline : (kind : LineKind) (bytes : List ℕ) → is_of_word kind ≡ false → InlineFault kind bytes → ⊥
no-inline BadInline bytes h bad = false≢true (sym h)
no-inline kind bytes h bad = bad

no-row : (kind : LineKind) (bytes : List ℕ) → is_of_word kind ≡ false → RowFault kind bytes → ⊥
no-row BadInline bytes h bad = false≢true (sym h)
no-row kind bytes h bad = bad

no-two : {A : Type 0} (Is : List ℕ → A → Type 0) (First Second : LineKind → List ℕ → Type 0) (kind : LineKind)
    → ((bytes : List ℕ) → First kind bytes → ⊥) → ((bytes : List ℕ) → Second kind bytes → ⊥) → (bytes : List ℕ) → InTwo Is First Second kind bytes → ⊥
no-two Is First Second kind f g bytes (inl bad) = f bytes bad
no-two Is First Second kind f g bytes (inr (word, rest, a, text, is, bad)) = g rest bad

no-place : (kind : LineKind) (bytes : List ℕ) → is_of_word kind ≡ false → PlaceFault kind bytes → ⊥
no-place kind bytes h (inl bad) = no-target kind bytes h bad
no-place kind bytes h (inr (e, bad)) =
    no-two IsPlace (NumberFault 0 9999) (NumberFault 0 9999) kind (λ bytes bad. no-number 0 9999 kind bytes h bad) (λ bytes bad. no-number 0 9999 kind bytes h bad) bytes bad

no-fault : (verb : Verb) (kind : LineKind) (bytes : List ℕ) → is_of_word kind ≡ false → Fault verb kind bytes → ⊥
no-fault Press kind bytes h bad = no-key kind bytes h bad
no-fault Click kind bytes h bad = no-place kind bytes h bad
no-fault Hover kind bytes h bad = no-place kind bytes h bad
no-fault Pause kind bytes h bad = bad
no-fault Resize kind bytes h bad =
    no-two (IsNumber 1 1024) (NumberFault 1 1024) (NumberFault 1 512) kind (λ bytes bad. no-number 1 1024 kind bytes h bad) (λ bytes bad. no-number 1 512 kind bytes h bad) bytes bad
no-fault Class kind bytes h bad = no-target kind bytes h bad
no-fault Text kind bytes h bad = no-target kind bytes h bad
no-fault Style kind bytes h bad = no-two IsTarget TargetFault InlineFault kind (λ bytes bad. no-target kind bytes h bad) (λ bytes bad. no-inline kind bytes h bad) bytes bad
no-fault Disable kind bytes h bad = no-target kind bytes h bad
no-fault Enable kind bytes h bad = no-target kind bytes h bad
no-fault Mount kind bytes h bad = no-two IsTarget TargetFault RowFault kind (λ bytes bad. no-target kind bytes h bad) (λ bytes bad. no-row kind bytes h bad) bytes bad
no-fault Remove kind bytes h bad = no-target kind bytes h bad
no-fault Before kind bytes h bad = no-two IsTarget TargetFault TargetFault kind (λ bytes bad. no-target kind bytes h bad) (λ bytes bad. no-target kind bytes h bad) bytes bad
no-fault Advance kind bytes h bad = no-two IsTarget TargetFault (NumberFault 0 1000000) kind (λ bytes bad. no-target kind bytes h bad) (λ bytes bad. no-number 0 1000000 kind bytes h bad) bytes bad
no-fault Theme kind bytes h bad = bad

own-kind : (line : List ℕ) (kind : LineKind) → is_of_word kind ≡ false → HasFault line kind → ⊥
own-kind line kind h is = no-fault is.verb kind is.rest h is.fault

-- ---- what is read

unsound : (line : List ℕ) → list_all no_line_feed line ≡ false → IsSound line → ⊥
unsound line h sound = false≢true (sym h ∙ sound.whole)

pub line-read : (line : List ℕ) (read : Option Input) → line_of line ≡ Ok read → Spells line read
line-read line read h = by (nat_lt 65536 (length line)) (is_utf8 line) (list_all no_line_feed line) refl refl refl (sym (as_reads line) ∙ h)
  where
    at : (line : List ℕ) → IsSound line → cond (is_empty line) (Ok None) (some_input (input_of line)) ≡ Ok read → Spells line read
    at [] sound g = subst (Spells []) (ok-same g) refl
    at (byte ∷ bytes) sound g =
        let (i, is, same) = bind-ok (input_of (byte ∷ bytes)) (λ (i : Input). Ok (Some i)) read g in
        subst (Spells (byte ∷ bytes)) (ok-same same) (sound, input-found (byte ∷ bytes) i sound.whole is)

    by : (a b c : Bool) → nat_lt 65536 (length line) ≡ a → is_utf8 line ≡ b → list_all no_line_feed line ≡ c → reads line a b c ≡ Ok read → Spells line read
    by true b c e f g i = err-ok i
    by false false c e f g i = err-ok i
    by false true false e f g i = err-ok i
    by false true true e f g i = at line (record { short = ltb-false 65536 (length line) e; utf8 = f; whole = g }) i

pub line-spelled : (line : List ℕ) (read : Option Input) → Spells line read → line_of line ≡ Ok read
line-spelled line None is = ap line_of is ∙ nothing-read
line-spelled line (Some i) (sound, is) = sound-read line sound (some-line line i is) ∙ ap some_input (input-again line i is)

-- ---- what is refused

fault-breaks : (line : List ℕ) (kind : LineKind) → HasFault line kind → Breaks line kind
fault-breaks line TooMany is = own-kind line TooMany refl is
fault-breaks line TooLong is = absurd (own-kind line TooLong refl is)
fault-breaks line BadByte is = absurd (own-kind line BadByte refl is)
fault-breaks line Expected is = absurd (own-kind line Expected refl is)
fault-breaks line BadKey is = is
fault-breaks line BadNumber is = is
fault-breaks line BadSelector is = is
fault-breaks line BadInline is = is

-- a line feed among the bytes
fed-other : (line : List ℕ) → length line ≤ 65536 → is_utf8 line ≡ true → list_all no_line_feed line ≡ false → IsOther line
fed-other line short utf8 fed = record { short = short; utf8 = utf8; nothing = nothing; no_fault = λ kind is. unsound line fed is.sound }
  where
    nothing : (read : Option Input) → Spells line read → ⊥
    nothing None e = false≢true (sym fed ∙ ap (list_all no_line_feed) e)
    nothing (Some i) (sound, is) = unsound line fed sound

-- words that go on otherwise
words-other : (line : List ℕ) → IsSound line → line ≢ [] → input_of line ≡ Err Expected → IsOther line
words-other line sound some h = record { short = sound.short; utf8 = sound.utf8; nothing = nothing; no_fault = no_fault }
  where
    nothing : (read : Option Input) → Spells line read → ⊥
    nothing None e = some e
    nothing (Some i) (s, is) = err-ok (sym h ∙ input-again line i is)

    no_fault : (kind : LineKind) → HasFault line kind → ⊥
    no_fault kind is =
        let same : Expected ≡ kind = err-same (sym h ∙ input-meets line kind is) in
        own-kind line Expected refl (subst (HasFault line) (sym same) is)

some-err : (r : Result Input LineKind) (kind : LineKind) → some_input r ≡ Err kind → r ≡ Err kind
some-err (Ok i) kind h = ok-err h
some-err (Err k) kind h = ap (λ z. Err z) (err-same h)

pub line-met : (line : List ℕ) (kind : LineKind) → line_of line ≡ Err kind → Breaks line kind
line-met line kind h = by (nat_lt 65536 (length line)) (is_utf8 line) (list_all no_line_feed line) refl refl refl (sym (as_reads line) ∙ h)
  where
    put : (line : List ℕ) → IsSound line → line ≢ [] → input_of line ≡ Err kind → (kind ≡ Expected) ⊎ HasFault line kind → Breaks line kind
    put line sound some g (inl e) = subst (Breaks line) (sym e) (words-other line sound some (g ∙ ap (λ z. Err z) e))
    put line sound some g (inr is) = fault-breaks line kind is

    at : (line : List ℕ) → IsSound line → cond (is_empty line) (Ok None) (some_input (input_of line)) ≡ Err kind → Breaks line kind
    at [] sound g = ok-err g
    at (byte ∷ bytes) sound g =
        let is = some-err (input_of (byte ∷ bytes)) kind g in
        put (byte ∷ bytes) sound (λ e. absurd cc) is (input-met (byte ∷ bytes) kind sound is)

    by : (a b c : Bool) → nat_lt 65536 (length line) ≡ a → is_utf8 line ≡ b → list_all no_line_feed line ≡ c → reads line a b c ≡ Err kind → Breaks line kind
    by true b c e f g i = subst (Breaks line) (err-same i) (ltb-true 65536 (length line) e)
    by false false c e f g i = subst (Breaks line) (err-same i) (ltb-false 65536 (length line) e, f)
    by false true false e f g i = subst (Breaks line) (err-same i) (fed-other line (ltb-false 65536 (length line) e) f g)
    by false true true e f g i = at line (record { short = ltb-false 65536 (length line) e; utf8 = f; whole = g }) i

no-bytes : (xs ys : List ℕ) (y : ℕ) → xs ++ (y ∷ ys) ≢ []
no-bytes [] ys y e = absurd cc
no-bytes (x ∷ xs) ys y e = absurd cc

fault-met : (line : List ℕ) (kind : LineKind) → HasFault line kind → line_of line ≡ Err kind
fault-met line kind is =
    let (rest, blank) = behind-blank is.verb is.rest kind is.fault in
    let some : line ≢ [] = λ e. no-bytes (verb_name is.verb) rest 32 (sym (is.text ∙ ap (λ (z : List ℕ). verb_name is.verb ++ z) blank) ∙ e) in
    sound-read line is.sound some ∙ ap some_input (input-meets line kind is)

-- everything else is Expected
other-met : (line : List ℕ) → IsOther line → line_of line ≡ Err Expected
other-met line is = by (line_of line) refl
  where
    at : (kind : LineKind) → Breaks line kind → kind ≡ Expected
    at TooMany bad = absurd bad
    at TooLong bad = let short = is.short in absurd (omega (arith, bad, short))
    at BadByte bad = absurd (false≢true (sym bad.1 ∙ is.utf8))
    at Expected bad = refl
    at BadKey bad = absurd (is.no_fault BadKey bad)
    at BadNumber bad = absurd (is.no_fault BadNumber bad)
    at BadSelector bad = absurd (is.no_fault BadSelector bad)
    at BadInline bad = absurd (is.no_fault BadInline bad)

    by : (r : Result (Option Input) LineKind) → line_of line ≡ r → line_of line ≡ Err Expected
    by (Ok read) e = absurd (is.nothing read (line-read line read e))
    by (Err kind) e = e ∙ ap (λ z. Err z) (at kind (line-met line kind e))

pub line-meets : (line : List ℕ) (kind : LineKind) → Breaks line kind → line_of line ≡ Err kind
line-meets line TooMany bad = absurd bad
line-meets line TooLong bad =
    as_reads line ∙ ap (λ (b : Bool). reads line b (is_utf8 line) (list_all no_line_feed line)) (lt-ltb 65536 (length line) bad)
line-meets line BadByte bad =
    as_reads line
    ∙ ap (λ (b : Bool). reads line b (is_utf8 line) (list_all no_line_feed line)) (few line bad.0)
    ∙ ap (λ (b : Bool). reads line false b (list_all no_line_feed line)) bad.1
line-meets line Expected bad = other-met line bad
line-meets line BadKey bad = fault-met line BadKey bad
line-meets line BadNumber bad = fault-met line BadNumber bad
line-meets line BadSelector bad = fault-met line BadSelector bad
line-meets line BadInline bad = fault-met line BadInline bad

pub lines-read : LinesAreRead
lines-read line = (λ read. (line-read line read, line-spelled line read), λ kind. (line-met line kind, line-meets line kind))

-- ---- the clauses of the call

abbrev pub Given : Result (Option Input) LineFault → Result (Option Input) LineKind → Type 0
Given = Gives {R = Option Input} {A = Option Input} (λ read. read) told

pub clause-found : (line : List ℕ) (result : Result (Option Input) LineFault) → Given result (line_of line) → IfOk result (λ read. Spells line read)
clause-found line (Ok read) gives = line-read line read gives
clause-found line (Err fault) gives = tt

pub clause-only : (line : List ℕ) (result : Result (Option Input) LineFault) → Given result (line_of line) → (read : Option Input) → Spells line read → Given result (Ok read)
clause-only line result gives read is = subst (Given result) (line-spelled line read is) gives

pub clause-fault : (line : List ℕ) (result : Result (Option Input) LineFault) → Given result (line_of line) → IfErr result (λ fault. IsFaultOf line fault)
clause-fault line (Ok read) gives = tt
clause-fault line (Err (Line kind)) gives = line-met line kind gives
clause-fault line (Err NoMemory) gives = tt

pub clause-refused : (line : List ℕ) (result : Result (Option Input) LineFault) → Given result (line_of line) → (kind : LineKind) → Breaks line kind → Given result (Err kind)
clause-refused line result gives kind is = subst (Given result) (line-meets line kind is) gives
