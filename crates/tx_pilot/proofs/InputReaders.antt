-- What is read behind the first word of a line is exactly what may stand there.
use Rattle.std.proofs.lemmas.Bool.{and_parts}
use Rattle.std.proofs.lemmas.Bool.Decides.{nat_tests}
use Rattle.std.proofs.Common.{◌≡◌, ◌⊎◌, inl, inr, ℕ, ◌==◌, Bool, true, false, cond, nat_lt, List, [], ◌∷◌, ◌++◌, length, Some, None, Result, Ok, Err, codes, is_some, refl, ap, sym, subst, ◌∙◌, arith}
use Rattle.std.specs.Char.{is_ascii_digit}
use Rattle.std.specs.List.{list_all}
use Rattle.std.specs.Str.{is_utf8}
use Rattle.std.proofs.lemmas.Str.{is_utf8-from_IsUtf8}
use Rattle.tx_read.specs.Number.{is_number}
use Rattle.tx_read.specs.Reading.{◌>>=◌}
use Rattle.tx_text.specs.Name.{is_name}
use Rattle.tx_tree.specs.declared.row.NewRow.{NewRow}
use Rattle.tx_tree_file.specs.Words.{IsKeyName}
use Rattle.tx_tree_file.proofs.lemmas.WordCuts.{same-byte, is_low, low-utf8}
use Rattle.tx_select.specs.SelectorValue.{SelectorValue}
use Rattle.tx_route.specs.declared.input.Input.{Input}
use Rattle.tx_route.specs.declared.input.Input.TheVariants as input
use Rattle.tx_pilot.specs.declared.fault.LineKind.{LineKind}
use Rattle.tx_pilot.specs.declared.fault.LineKind.TheVariants.{Expected, BadSelector}
use Rattle.tx_pilot.specs.declared.verb.Verb.{Verb}
use Rattle.tx_pilot.specs.declared.verb.Verb.TheVariants.{Press, Click, Hover, Pause, Resize, Class, Text, Style, Disable, Enable, Mount, Remove, Before, Advance, Theme}
use Rattle.tx_pilot.specs.LineReading.{spaced, key_at, number_at, string_at, target_at, last, marked, class_of, last_inline, last_row, last_theme, two_numbers, point, with_target, input_behind, input_by, input_of}
use Rattle.tx_pilot.specs.Lines.{OneWord, TwoWords, IsPlace, IsLine, KeyFault, NumberFault, TargetFault, InlineFault, RowFault, NoFault, InTwo, is_quote_next, PlaceFault, Fault}
use Rattle.tx_pilot.specs.Verbs.{verb_name, verb_named}
use Rattle.tx_pilot.specs.Words.{IsNumber, IsString, IsTarget, IsMarked, IsInline, IsRow}
use Rattle.tx_pilot.proofs.Describe.{Blank, Whole, DescribesLast, DescribesTwo, last-describes, two-describe}
use Rattle.tx_pilot.proofs.EndReaders.{inline-describes, row-describes, theme-found, theme-err}
use Rattle.tx_pilot.proofs.Steps.{ok-same, err-same, ok-err, err-ok, bind-ok, bind-err, ended-ok, ended-err}
use Rattle.tx_pilot.proofs.WordReaders.{spaced-ok, spaced-err, key-describes, number-describes, string-describes, target-describes, digits-some}

-- ---- a value made of what was read

abbrev made : {A B : Type 0} → (A → B) → Result A LineKind → Result B LineKind
made f r = r >>= (λ a. Ok (f a))

made-ok : {A B : Type 0} (f : A → B) (r : Result A LineKind) (b : B) → made f r ≡ Ok b → (a : A) × (r ≡ Ok a) × (f a ≡ b)
made-ok f (Ok a) b h = (a, refl, ok-same h)
made-ok f (Err kind) b h = err-ok h

made-err : {A B : Type 0} (f : A → B) (r : Result A LineKind) (kind : LineKind) → made f r ≡ Err kind → r ≡ Err kind
made-err f (Ok a) kind h = ok-err h
made-err f (Err k) kind h = ap (λ z. Err z) (err-same h)

-- ---- one word

one-key : DescribesLast (last key_at) IsKeyName KeyFault
one-key = last-describes key_at IsKeyName KeyFault key-describes

one-target : DescribesLast (last target_at) IsTarget TargetFault
one-target = last-describes target_at IsTarget TargetFault target-describes

one-found : {A : Type 0} (verb : List ℕ) (reader : List ℕ → Result A LineKind) (Is : List ℕ → A → Type 0) (Bad : LineKind → List ℕ → Type 0) → DescribesLast reader Is Bad
    → (make : A → Input) → ((line : List ℕ) (a : A) → OneWord verb Is line a → IsLine line (make a))
    → (bytes : List ℕ) (i : Input) → Whole bytes → made make (reader bytes) ≡ Ok i → IsLine (verb ++ bytes) i
one-found verb reader Is Bad d make line bytes i whole h =
    let (a, is, same) = made-ok make (reader bytes) i h in
    let (word, text, good) = d.found bytes a whole is in
    subst (IsLine (verb ++ bytes)) same (line (verb ++ bytes) a (word, ap (λ (z : List ℕ). verb ++ z) text, good))

-- ---- two words

two-places : (least most low high : ℕ) → DescribesTwo (two_numbers least most low high) (IsNumber least most) (IsNumber low high) (InTwo (IsNumber least most) (NumberFault least most) (NumberFault low high))
two-places least most low high =
    two-describe (number_at least most) (last (number_at low high)) (IsNumber least most) (IsNumber low high) (NumberFault least most) (NumberFault low high)
    (number-describes least most) (last-describes (number_at low high) (IsNumber low high) (NumberFault low high) (number-describes low high))

on-target : {A : Type 0} (more : List ℕ → Result A LineKind) (Is : List ℕ → A → Type 0) (Bad : LineKind → List ℕ → Type 0) → DescribesLast more Is Bad
    → DescribesTwo (with_target more) IsTarget Is (InTwo IsTarget TargetFault Bad)
on-target more Is Bad d = two-describe target_at more IsTarget Is TargetFault Bad target-describes d

two-found : {A B : Type 0} (verb : List ℕ) (reader : List ℕ → Result (A × B) LineKind) (Is : List ℕ → A → Type 0) (And : List ℕ → B → Type 0) (Bad : LineKind → List ℕ → Type 0) → DescribesTwo reader Is And Bad
    → (make : A × B → Input) → ((line : List ℕ) (p : A × B) → TwoWords verb Is And line p.0 p.1 → IsLine line (make p))
    → (bytes : List ℕ) (i : Input) → Whole bytes → made make (reader bytes) ≡ Ok i → IsLine (verb ++ bytes) i
two-found verb reader Is And Bad d make line bytes i whole h =
    let (p, is, same) = made-ok make (reader bytes) i h in
    let (first, second, text, good, fine) = d.found bytes p whole is in
    subst (IsLine (verb ++ bytes)) same (line (verb ++ bytes) p (first, second, ap (λ (z : List ℕ). verb ++ z) text, good, fine))

two-texts : DescribesTwo (with_target (last string_at)) IsTarget IsString (InTwo IsTarget TargetFault NoFault)
two-texts = on-target (last string_at) IsString NoFault (last-describes string_at IsString NoFault string-describes)

two-inline : DescribesTwo (with_target last_inline) IsTarget IsInline (InTwo IsTarget TargetFault InlineFault)
two-inline = on-target last_inline IsInline InlineFault inline-describes

two-row : DescribesTwo (with_target last_row) IsTarget IsRow (InTwo IsTarget TargetFault RowFault)
two-row = on-target last_row IsRow RowFault row-describes

two-targets : DescribesTwo (with_target (last target_at)) IsTarget IsTarget (InTwo IsTarget TargetFault TargetFault)
two-targets = on-target (last target_at) IsTarget TargetFault one-target

two-advance : DescribesTwo (with_target (last (number_at 0 1000000))) IsTarget (IsNumber 0 1000000) (InTwo IsTarget TargetFault (NumberFault 0 1000000))
two-advance = on-target (last (number_at 0 1000000)) (IsNumber 0 1000000) (NumberFault 0 1000000) (last-describes (number_at 0 1000000) (IsNumber 0 1000000) (NumberFault 0 1000000) (number-describes 0 1000000))

-- a second word without a fault of its own adds none
first-alone : (kind : LineKind) (bytes : List ℕ) → InTwo IsTarget TargetFault NoFault kind bytes → TargetFault kind bytes
first-alone kind bytes (inl bad) = bad
first-alone kind bytes (inr (word, rest, a, text, is, bad)) = absurd bad

-- ---- a place or a target

-- a number doesn't begin with a quote
digits-plain : (digits rest : List ℕ) → is_number digits ≡ true → is_quote_next (32 ∷ (digits ++ rest)) ≡ false
digits-plain [] rest h = absurd (digits-some [] h refl)
digits-plain (d ∷ digits) rest h =
    let first : is_ascii_digit d ≡ true = (and_parts _ _ (and_parts (nat_lt 0 (length (d ∷ digits))) _ h).1).0 in
    ap (λ (b : Bool). is_some (cond b (Some (digits ++ rest)) None)) (no_quote d first)
  where
    no_quote : (d : ℕ) → is_ascii_digit d ≡ true → (d == 34) ≡ false
    no_quote d h = grind (arith, nat_tests)

-- a target does
target-quoted : (word rest : List ℕ) (target : SelectorValue) → IsTarget word target → is_quote_next (32 ∷ (word ++ rest)) ≡ true
target-quoted word rest target is = ap (λ (z : List ℕ). is_quote_next (32 ∷ (z ++ rest))) is.string.quoted.is

point-found : (verb : List ℕ) (at : ℕ → ℕ → Input) (on : SelectorValue → Input)
    → ((line : List ℕ) (x y : ℕ) → TwoWords verb IsPlace IsPlace line x y → IsLine line (at x y)) → ((line : List ℕ) (target : SelectorValue) → OneWord verb IsTarget line target → IsLine line (on target))
    → (bytes : List ℕ) (i : Input) → Whole bytes → point at on bytes ≡ Ok i → IsLine (verb ++ bytes) i
point-found verb at on places targets bytes i whole h = by (is_quote_next bytes) h
  where
    by : (b : Bool) → cond b (made on (last target_at bytes)) (made (λ (p : ℕ × ℕ). at p.0 p.1) (two_numbers 0 9999 0 9999 bytes)) ≡ Ok i → IsLine (verb ++ bytes) i
    by true g = one-found verb (last target_at) IsTarget TargetFault one-target on targets bytes i whole g
    by false g = two-found verb (two_numbers 0 9999 0 9999) IsPlace IsPlace (InTwo IsPlace (NumberFault 0 9999) (NumberFault 0 9999)) (two-places 0 9999 0 9999) (λ p. at p.0 p.1) (λ line p. places line p.0 p.1) bytes i whole g

point-met : (at : ℕ → ℕ → Input) (on : SelectorValue → Input) (bytes : List ℕ) (kind : LineKind) → Whole bytes → point at on bytes ≡ Err kind → (kind ≡ Expected) ⊎ PlaceFault kind bytes
point-met at on bytes kind whole h = by (is_quote_next bytes) refl h
  where
    first : (kind ≡ Expected) ⊎ TargetFault kind bytes → (kind ≡ Expected) ⊎ PlaceFault kind bytes
    first (inl e) = inl e
    first (inr bad) = inr (inl bad)

    second : is_quote_next bytes ≡ false → (kind ≡ Expected) ⊎ InTwo IsPlace (NumberFault 0 9999) (NumberFault 0 9999) kind bytes → (kind ≡ Expected) ⊎ PlaceFault kind bytes
    second e (inl same) = inl same
    second e (inr bad) = inr (inr (e, bad))

    by : (b : Bool) → is_quote_next bytes ≡ b → cond b (made on (last target_at bytes)) (made (λ (p : ℕ × ℕ). at p.0 p.1) (two_numbers 0 9999 0 9999 bytes)) ≡ Err kind → (kind ≡ Expected) ⊎ PlaceFault kind bytes
    by true e g = first (one-target.met bytes kind whole (made-err on (last target_at bytes) kind g))
    by false e g = second e ((two-places 0 9999 0 9999).met bytes kind whole (made-err (λ (p : ℕ × ℕ). at p.0 p.1) (two_numbers 0 9999 0 9999 bytes) kind g))

-- where no selector stands, a quote does
target-fault-quoted : (kind : LineKind) (bytes : List ℕ) → TargetFault kind bytes → is_quote_next bytes ≡ true
target-fault-quoted BadSelector bytes (all, text, bad) =
    ap is_quote_next (text ∙ ap (λ (z : List ℕ). 32 ∷ z) (bad.stands ∙ ap (λ (z : List ℕ). z ++ bad.rest) bad.spelled.quoted.is))
target-fault-quoted kind bytes bad = absurd bad

point-meets : (at : ℕ → ℕ → Input) (on : SelectorValue → Input) (bytes : List ℕ) (kind : LineKind) → PlaceFault kind bytes → point at on bytes ≡ Err kind
point-meets at on bytes kind (inl bad) =
    ap (λ (b : Bool). cond b (made on (last target_at bytes)) (made (λ (p : ℕ × ℕ). at p.0 p.1) (two_numbers 0 9999 0 9999 bytes))) (target-fault-quoted kind bytes bad)
    ∙ ap (made on) (one-target.meets bytes kind bad)
point-meets at on bytes kind (inr (e, bad)) =
    ap (λ (b : Bool). cond b (made on (last target_at bytes)) (made (λ (p : ℕ × ℕ). at p.0 p.1) (two_numbers 0 9999 0 9999 bytes))) e
    ∙ ap (made (λ (p : ℕ × ℕ). at p.0 p.1)) ((two-places 0 9999 0 9999).meets bytes kind bad)

point-blank : (bytes : List ℕ) (kind : LineKind) → PlaceFault kind bytes → Blank bytes
point-blank bytes kind (inl bad) = one-target.blank bytes kind bad
point-blank bytes kind (inr (e, bad)) = (two-places 0 9999 0 9999).blank bytes kind bad

-- ---- a class that comes or goes

abbrev class_reader : List ℕ → Result Input LineKind
class_reader bytes = target_at bytes >>= (λ target. spaced target.1 >>= class_of target.0)

marked-ok : (make : List ℕ → Input) (name : List ℕ) (i : Input) → marked make name ≡ Ok i → (is_name name ≡ true) × (make name ≡ i)
marked-ok make name i h = by (is_name name) refl h
  where
    by : (b : Bool) → is_name name ≡ b → ◌≡◌ {A = Result Input LineKind} (cond b (Ok (make name)) (Err Expected)) (Ok i) → (is_name name ≡ true) × (make name ≡ i)
    by true e g = (e, ok-same g)
    by false e g = err-ok g

marked-err : (make : List ℕ → Input) (name : List ℕ) (kind : LineKind) → marked make name ≡ Err kind → kind ≡ Expected
marked-err make name kind h = by (is_name name) h
  where
    by : (b : Bool) → ◌≡◌ {A = Result Input LineKind} (cond b (Ok (make name)) (Err Expected)) (Err kind) → kind ≡ Expected
    by true g = ok-err g
    by false g = sym (err-same g)

class-line : (line first rest : List ℕ) (target : SelectorValue) (i : Input) → line ≡ codes "class" ++ (32 ∷ (first ++ (32 ∷ rest))) → IsTarget first target → class_of target rest ≡ Ok i → IsLine line i
class-line line first [] target i text is h = err-ok h
class-line line first (mark ∷ name) target i text is h = by (mark == 43) (mark == 45) refl refl h
  where
    by : (a b : Bool) → (mark == 43) ≡ a → (mark == 45) ≡ b → cond a (marked (input.AddClass target) name) (cond b (marked (input.RemoveClass target) name) (Err Expected)) ≡ Ok i → IsLine line i
    by true b e f g =
        let (good, same) = marked-ok (input.AddClass target) name i g in
        subst (IsLine line) same (first, mark ∷ name, text, is, record { is = ap (λ (z : ℕ). z ∷ name) (same-byte mark 43 e); named = good })
    by false true e f g =
        let (good, same) = marked-ok (input.RemoveClass target) name i g in
        subst (IsLine line) same (first, mark ∷ name, text, is, record { is = ap (λ (z : ℕ). z ∷ name) (same-byte mark 45 f); named = good })
    by false false e f g = err-ok g

class_of-err : (target : SelectorValue) (rest : List ℕ) (kind : LineKind) → class_of target rest ≡ Err kind → kind ≡ Expected
class_of-err target [] kind h = sym (err-same h)
class_of-err target (mark ∷ name) kind h = by (mark == 43) (mark == 45) h
  where
    by : (a b : Bool) → cond a (marked (input.AddClass target) name) (cond b (marked (input.RemoveClass target) name) (Err Expected)) ≡ Err kind → kind ≡ Expected
    by true b g = marked-err (input.AddClass target) name kind g
    by false true g = marked-err (input.RemoveClass target) name kind g
    by false false g = sym (err-same g)

class-found : (bytes : List ℕ) (i : Input) → class_reader bytes ≡ Ok i → IsLine (codes "class" ++ bytes) i
class-found bytes i h =
    let (f, is, more) = bind-ok (target_at bytes) (λ (f : SelectorValue × List ℕ). spaced f.1 >>= class_of f.0) i h in
    let (rest, blank, that) = bind-ok (spaced f.1) (class_of f.0) i more in
    let (word, text, good) = target-describes.found bytes f.1 f.0 is in
    class-line (codes "class" ++ bytes) word rest f.0 i
    (ap (λ (z : List ℕ). codes "class" ++ z) (text ∙ ap (λ (z : List ℕ). 32 ∷ (word ++ z)) (spaced-ok f.1 rest blank))) good that

class-met : (bytes : List ℕ) (kind : LineKind) → class_reader bytes ≡ Err kind → (kind ≡ Expected) ⊎ TargetFault kind bytes
class-met bytes kind h = either (bind-err (target_at bytes) (λ (f : SelectorValue × List ℕ). spaced f.1 >>= class_of f.0) kind h)
  where
    after : (f : SelectorValue × List ℕ) → (spaced f.1 ≡ Err kind) ⊎ ((rest : List ℕ) × (spaced f.1 ≡ Ok rest) × (class_of f.0 rest ≡ Err kind)) → kind ≡ Expected
    after f (inl e) = spaced-err f.1 kind e
    after f (inr (rest, is, e)) = class_of-err f.0 rest kind e

    either : (target_at bytes ≡ Err kind) ⊎ ((f : SelectorValue × List ℕ) × (target_at bytes ≡ Ok f) × ((spaced f.1 >>= class_of f.0) ≡ Err kind)) → (kind ≡ Expected) ⊎ TargetFault kind bytes
    either (inl e) = target-describes.met bytes kind e
    either (inr (f, is, e)) = inl (after f (bind-err (spaced f.1) (class_of f.0) kind e))

class-meets : (bytes : List ℕ) (kind : LineKind) → TargetFault kind bytes → class_reader bytes ≡ Err kind
class-meets bytes kind bad = ap (λ (r : Result (SelectorValue × List ℕ) LineKind). r >>= (λ target. spaced target.1 >>= class_of target.0)) (target-describes.meets bytes kind bad)

-- ---- the theme

theme-line : (bytes : List ℕ) (dark : Bool) → bytes ≡ cond dark (codes " dark") (codes " light") → IsLine (codes "theme" ++ bytes) (input.Theme dark)
theme-line bytes true h = ap (λ (z : List ℕ). codes "theme" ++ z) h
theme-line bytes false h = ap (λ (z : List ℕ). codes "theme" ++ z) h

-- ---- by the first word

pub behind-found : (verb : Verb) (bytes : List ℕ) (i : Input) → Whole bytes → input_behind verb bytes ≡ Ok i → IsLine (verb_name verb ++ bytes) i
behind-found Press bytes i whole h = one-found (codes "press") (last key_at) IsKeyName KeyFault one-key input.Press (λ line key is. is) bytes i whole h
behind-found Click bytes i whole h = point-found (codes "click") input.ClickAt input.Click (λ line x y is. is) (λ line target is. is) bytes i whole h
behind-found Hover bytes i whole h = point-found (codes "hover") input.HoverAt input.Hover (λ line x y is. is) (λ line target is. is) bytes i whole h
behind-found Pause bytes i whole h =
    let (nil, same) = ended-ok input.Pause i bytes h in
    subst (IsLine (codes "pause" ++ bytes)) same (ap (λ (z : List ℕ). codes "pause" ++ z) nil)
behind-found Resize bytes i whole h =
    two-found (codes "resize") (two_numbers 1 1024 1 512) (IsNumber 1 1024) (IsNumber 1 512) (InTwo (IsNumber 1 1024) (NumberFault 1 1024) (NumberFault 1 512)) (two-places 1 1024 1 512)
    (λ p. input.Resize (record { width = p.0; height = p.1 })) (λ line p is. is) bytes i whole h
behind-found Class bytes i whole h = class-found bytes i h
behind-found Text bytes i whole h = two-found (codes "text") (with_target (last string_at)) IsTarget IsString (InTwo IsTarget TargetFault NoFault) two-texts (λ p. input.SetText p.0 p.1) (λ line p is. is) bytes i whole h
behind-found Style bytes i whole h = two-found (codes "style") (with_target last_inline) IsTarget IsInline (InTwo IsTarget TargetFault InlineFault) two-inline (λ p. input.SetInline p.0 p.1) (λ line p is. is) bytes i whole h
behind-found Disable bytes i whole h = one-found (codes "disable") (last target_at) IsTarget TargetFault one-target input.Disable (λ line target is. is) bytes i whole h
behind-found Enable bytes i whole h = one-found (codes "enable") (last target_at) IsTarget TargetFault one-target input.Enable (λ line target is. is) bytes i whole h
behind-found Mount bytes i whole h = two-found (codes "mount") (with_target last_row) IsTarget IsRow (InTwo IsTarget TargetFault RowFault) two-row (λ p. input.Mount p.0 p.1) (λ line p is. is) bytes i whole h
behind-found Remove bytes i whole h = one-found (codes "remove") (last target_at) IsTarget TargetFault one-target input.Remove (λ line target is. is) bytes i whole h
behind-found Before bytes i whole h = two-found (codes "before") (with_target (last target_at)) IsTarget IsTarget (InTwo IsTarget TargetFault TargetFault) two-targets (λ p. input.Before p.0 p.1) (λ line p is. is) bytes i whole h
behind-found Advance bytes i whole h = two-found (codes "advance") (with_target (last (number_at 0 1000000))) IsTarget (IsNumber 0 1000000) (InTwo IsTarget TargetFault (NumberFault 0 1000000)) two-advance (λ p. input.Advance p.0 p.1) (λ line p is. is) bytes i whole h
behind-found Theme bytes i whole h =
    let (dark, is, same) = made-ok input.Theme (last_theme bytes) i h in
    subst (IsLine (codes "theme" ++ bytes)) same (theme-line bytes dark (theme-found bytes dark is))

-- the faults are those of the first word at fault, or Expected
with-first : (kind : LineKind) (bytes : List ℕ) → (kind ≡ Expected) ⊎ InTwo IsTarget TargetFault NoFault kind bytes → (kind ≡ Expected) ⊎ TargetFault kind bytes
with-first kind bytes (inl e) = inl e
with-first kind bytes (inr bad) = inr (first-alone kind bytes bad)

pub behind-met : (verb : Verb) (bytes : List ℕ) (kind : LineKind) → Whole bytes → input_behind verb bytes ≡ Err kind → (kind ≡ Expected) ⊎ Fault verb kind bytes
behind-met Press bytes kind whole h = one-key.met bytes kind whole (made-err input.Press (last key_at bytes) kind h)
behind-met Click bytes kind whole h = point-met input.ClickAt input.Click bytes kind whole h
behind-met Hover bytes kind whole h = point-met input.HoverAt input.Hover bytes kind whole h
behind-met Pause bytes kind whole h = inl (ended-err input.Pause kind bytes h)
behind-met Resize bytes kind whole h = (two-places 1 1024 1 512).met bytes kind whole (made-err (λ (p : ℕ × ℕ). input.Resize (record { width = p.0; height = p.1 })) (two_numbers 1 1024 1 512 bytes) kind h)
behind-met Class bytes kind whole h = class-met bytes kind h
behind-met Text bytes kind whole h = with-first kind bytes (two-texts.met bytes kind whole (made-err (λ (p : SelectorValue × List ℕ). input.SetText p.0 p.1) (with_target (last string_at) bytes) kind h))
behind-met Style bytes kind whole h = two-inline.met bytes kind whole (made-err (λ (p : SelectorValue × List ℕ). input.SetInline p.0 p.1) (with_target last_inline bytes) kind h)
behind-met Disable bytes kind whole h = one-target.met bytes kind whole (made-err input.Disable (last target_at bytes) kind h)
behind-met Enable bytes kind whole h = one-target.met bytes kind whole (made-err input.Enable (last target_at bytes) kind h)
behind-met Mount bytes kind whole h = two-row.met bytes kind whole (made-err (λ (p : SelectorValue × NewRow). input.Mount p.0 p.1) (with_target last_row bytes) kind h)
behind-met Remove bytes kind whole h = one-target.met bytes kind whole (made-err input.Remove (last target_at bytes) kind h)
behind-met Before bytes kind whole h = two-targets.met bytes kind whole (made-err (λ (p : SelectorValue × SelectorValue). input.Before p.0 p.1) (with_target (last target_at) bytes) kind h)
behind-met Advance bytes kind whole h = two-advance.met bytes kind whole (made-err (λ (p : SelectorValue × ℕ). input.Advance p.0 p.1) (with_target (last (number_at 0 1000000)) bytes) kind h)
behind-met Theme bytes kind whole h = inl (theme-err bytes kind (made-err input.Theme (last_theme bytes) kind h))

pub behind-meets : (verb : Verb) (bytes : List ℕ) (kind : LineKind) → Fault verb kind bytes → input_behind verb bytes ≡ Err kind
behind-meets Press bytes kind bad = ap (made input.Press) (one-key.meets bytes kind bad)
behind-meets Click bytes kind bad = point-meets input.ClickAt input.Click bytes kind bad
behind-meets Hover bytes kind bad = point-meets input.HoverAt input.Hover bytes kind bad
behind-meets Pause bytes kind bad = absurd bad
behind-meets Resize bytes kind bad = ap (made (λ (p : ℕ × ℕ). input.Resize (record { width = p.0; height = p.1 }))) ((two-places 1 1024 1 512).meets bytes kind bad)
behind-meets Class bytes kind bad = class-meets bytes kind bad
behind-meets Text bytes kind bad = ap (made (λ (p : SelectorValue × List ℕ). input.SetText p.0 p.1)) (two-texts.meets bytes kind (inl bad))
behind-meets Style bytes kind bad = ap (made (λ (p : SelectorValue × List ℕ). input.SetInline p.0 p.1)) (two-inline.meets bytes kind bad)
behind-meets Disable bytes kind bad = ap (made input.Disable) (one-target.meets bytes kind bad)
behind-meets Enable bytes kind bad = ap (made input.Enable) (one-target.meets bytes kind bad)
behind-meets Mount bytes kind bad = ap (made (λ (p : SelectorValue × NewRow). input.Mount p.0 p.1)) (two-row.meets bytes kind bad)
behind-meets Remove bytes kind bad = ap (made input.Remove) (one-target.meets bytes kind bad)
behind-meets Before bytes kind bad = ap (made (λ (p : SelectorValue × SelectorValue). input.Before p.0 p.1)) (two-targets.meets bytes kind bad)
behind-meets Advance bytes kind bad = ap (made (λ (p : SelectorValue × ℕ). input.Advance p.0 p.1)) (two-advance.meets bytes kind bad)
behind-meets Theme bytes kind bad = absurd bad

pub behind-blank : (verb : Verb) (bytes : List ℕ) (kind : LineKind) → Fault verb kind bytes → Blank bytes
behind-blank Press bytes kind bad = one-key.blank bytes kind bad
behind-blank Click bytes kind bad = point-blank bytes kind bad
behind-blank Hover bytes kind bad = point-blank bytes kind bad
behind-blank Pause bytes kind bad = absurd bad
behind-blank Resize bytes kind bad = (two-places 1 1024 1 512).blank bytes kind bad
behind-blank Class bytes kind bad = one-target.blank bytes kind bad
behind-blank Text bytes kind bad = one-target.blank bytes kind bad
behind-blank Style bytes kind bad = two-inline.blank bytes kind bad
behind-blank Disable bytes kind bad = one-target.blank bytes kind bad
behind-blank Enable bytes kind bad = one-target.blank bytes kind bad
behind-blank Mount bytes kind bad = two-row.blank bytes kind bad
behind-blank Remove bytes kind bad = one-target.blank bytes kind bad
behind-blank Before bytes kind bad = two-targets.blank bytes kind bad
behind-blank Advance bytes kind bad = two-advance.blank bytes kind bad
behind-blank Theme bytes kind bad = absurd bad

ascii-utf8 : (bytes : List ℕ) → list_all is_low bytes ≡ true → is_utf8 bytes ≡ true
ascii-utf8 bytes h = is_utf8-from_IsUtf8 bytes (low-utf8 bytes h)

-- a line that begins with this word, and a blank after it
verb-utf8 : (verb : Verb) → is_utf8 (verb_name verb) ≡ true
verb-utf8 Press = ascii-utf8 (codes "press") refl
verb-utf8 Click = ascii-utf8 (codes "click") refl
verb-utf8 Hover = ascii-utf8 (codes "hover") refl
verb-utf8 Pause = ascii-utf8 (codes "pause") refl
verb-utf8 Resize = ascii-utf8 (codes "resize") refl
verb-utf8 Class = ascii-utf8 (codes "class") refl
verb-utf8 Text = ascii-utf8 (codes "text") refl
verb-utf8 Style = ascii-utf8 (codes "style") refl
verb-utf8 Disable = ascii-utf8 (codes "disable") refl
verb-utf8 Enable = ascii-utf8 (codes "enable") refl
verb-utf8 Mount = ascii-utf8 (codes "mount") refl
verb-utf8 Remove = ascii-utf8 (codes "remove") refl
verb-utf8 Before = ascii-utf8 (codes "before") refl
verb-utf8 Advance = ascii-utf8 (codes "advance") refl
verb-utf8 Theme = ascii-utf8 (codes "theme") refl

pub begun : (verb : Verb) (rest : List ℕ) → input_of (verb_name verb ++ (32 ∷ rest)) ≡ input_behind verb (32 ∷ rest)
unfolding input_of
begun Press rest = ap (λ (b : Bool). input_by (cond b (verb_named (codes "press")) None) (32 ∷ rest)) (verb-utf8 Press)
begun Click rest = ap (λ (b : Bool). input_by (cond b (verb_named (codes "click")) None) (32 ∷ rest)) (verb-utf8 Click)
begun Hover rest = ap (λ (b : Bool). input_by (cond b (verb_named (codes "hover")) None) (32 ∷ rest)) (verb-utf8 Hover)
begun Pause rest = ap (λ (b : Bool). input_by (cond b (verb_named (codes "pause")) None) (32 ∷ rest)) (verb-utf8 Pause)
begun Resize rest = ap (λ (b : Bool). input_by (cond b (verb_named (codes "resize")) None) (32 ∷ rest)) (verb-utf8 Resize)
begun Class rest = ap (λ (b : Bool). input_by (cond b (verb_named (codes "class")) None) (32 ∷ rest)) (verb-utf8 Class)
begun Text rest = ap (λ (b : Bool). input_by (cond b (verb_named (codes "text")) None) (32 ∷ rest)) (verb-utf8 Text)
begun Style rest = ap (λ (b : Bool). input_by (cond b (verb_named (codes "style")) None) (32 ∷ rest)) (verb-utf8 Style)
begun Disable rest = ap (λ (b : Bool). input_by (cond b (verb_named (codes "disable")) None) (32 ∷ rest)) (verb-utf8 Disable)
begun Enable rest = ap (λ (b : Bool). input_by (cond b (verb_named (codes "enable")) None) (32 ∷ rest)) (verb-utf8 Enable)
begun Mount rest = ap (λ (b : Bool). input_by (cond b (verb_named (codes "mount")) None) (32 ∷ rest)) (verb-utf8 Mount)
begun Remove rest = ap (λ (b : Bool). input_by (cond b (verb_named (codes "remove")) None) (32 ∷ rest)) (verb-utf8 Remove)
begun Before rest = ap (λ (b : Bool). input_by (cond b (verb_named (codes "before")) None) (32 ∷ rest)) (verb-utf8 Before)
begun Advance rest = ap (λ (b : Bool). input_by (cond b (verb_named (codes "advance")) None) (32 ∷ rest)) (verb-utf8 Advance)
begun Theme rest = ap (λ (b : Bool). input_by (cond b (verb_named (codes "theme")) None) (32 ∷ rest)) (verb-utf8 Theme)

-- ---- what is in the grammar is read

-- a class that comes or goes
class-again : (make : SelectorValue → List ℕ → Input) (mark : ℕ) → ((target : SelectorValue) (name : List ℕ) → class_of target (mark ∷ name) ≡ marked (make target) name)
    → (first second : List ℕ) (target : SelectorValue) (name : List ℕ) → IsTarget first target → IsMarked mark second name → class_reader (32 ∷ (first ++ (32 ∷ second))) ≡ Ok (make target name)
class-again make mark step first second target name is that =
    ap (λ (r : Result (SelectorValue × List ℕ) LineKind). r >>= (λ target. spaced target.1 >>= class_of target.0)) (target-describes.again first (32 ∷ second) target is refl)
    ∙ ap (class_of target) that.is
    ∙ step target name
    ∙ ap (λ (b : Bool). cond b (Ok (make target name)) (Err Expected)) that.named

place-again : (at : ℕ → ℕ → Input) (on : SelectorValue → Input) (first second : List ℕ) (x y : ℕ) → IsPlace first x → IsPlace second y → point at on (32 ∷ (first ++ (32 ∷ second))) ≡ Ok (at x y)
place-again at on first second x y is that =
    let bytes = 32 ∷ (first ++ (32 ∷ second)) in
    ap (λ (b : Bool). cond b (made on (last target_at bytes)) (made (λ (p : ℕ × ℕ). at p.0 p.1) (two_numbers 0 9999 0 9999 bytes))) (digits-plain first (32 ∷ second) is.plain)
    ∙ ap (made (λ (p : ℕ × ℕ). at p.0 p.1)) ((two-places 0 9999 0 9999).again first second x y is that)

on-again : (at : ℕ → ℕ → Input) (on : SelectorValue → Input) (word : List ℕ) (target : SelectorValue) → IsTarget word target → point at on (32 ∷ word) ≡ Ok (on target)
on-again at on word target is =
    let bytes = 32 ∷ word in
    ap (λ (b : Bool). cond b (made on (last target_at bytes)) (made (λ (p : ℕ × ℕ). at p.0 p.1) (two_numbers 0 9999 0 9999 bytes))) (quoted word target is)
    ∙ ap (made on) (one-target.again word target is)
  where
    quoted : (word : List ℕ) (target : SelectorValue) → IsTarget word target → is_quote_next (32 ∷ word) ≡ true
    quoted word target is = ap (λ (z : List ℕ). is_quote_next (32 ∷ z)) is.string.quoted.is

-- one word, and two
one-again : {A : Type 0} (verb : Verb) (reader : List ℕ → Result A LineKind) (Is : List ℕ → A → Type 0) (Bad : LineKind → List ℕ → Type 0) → DescribesLast reader Is Bad
    → (make : A → Input) → ((bytes : List ℕ) → input_behind verb bytes ≡ made make (reader bytes))
    → (line : List ℕ) (a : A) → OneWord (verb_name verb) Is line a → input_of line ≡ Ok (make a)
one-again verb reader Is Bad d make step line a (word, text, is) =
    ap input_of text ∙ begun verb word ∙ step (32 ∷ word) ∙ ap (made make) (d.again word a is)

two-again : {A B : Type 0} (verb : Verb) (reader : List ℕ → Result (A × B) LineKind) (Is : List ℕ → A → Type 0) (And : List ℕ → B → Type 0) (Bad : LineKind → List ℕ → Type 0) → DescribesTwo reader Is And Bad
    → (make : A × B → Input) → ((bytes : List ℕ) → input_behind verb bytes ≡ made make (reader bytes))
    → (line : List ℕ) (a : A) (b : B) → TwoWords (verb_name verb) Is And line a b → input_of line ≡ Ok (make (a, b))
two-again verb reader Is And Bad d make step line a b (first, second, text, is, that) =
    ap input_of text ∙ begun verb (first ++ (32 ∷ second)) ∙ step (32 ∷ (first ++ (32 ∷ second))) ∙ ap (made make) (d.again first second a b is that)

pause-read : input_of (codes "pause") ≡ Ok input.Pause
unfolding input_of
pause-read = ap (λ (b : Bool). input_by (cond b (verb_named (codes "pause")) None) []) (verb-utf8 Pause)

theme-read : (dark : Bool) (line : List ℕ) → line ≡ cond dark (codes "theme dark") (codes "theme light") → input_of line ≡ Ok (input.Theme dark)
theme-read true line h = ap input_of h ∙ begun Theme (codes "dark")
theme-read false line h = ap input_of h ∙ begun Theme (codes "light")

pub input-again : (line : List ℕ) (i : Input) → IsLine line i → input_of line ≡ Ok i
input-again line (input.Press key) is = one-again Press (last key_at) IsKeyName KeyFault one-key input.Press (λ bytes. refl) line key is
input-again line (input.ClickAt x y) (first, second, text, is, that) =
    ap input_of text ∙ begun Click (first ++ (32 ∷ second)) ∙ place-again input.ClickAt input.Click first second x y is that
input-again line (input.Click target) (word, text, is) = ap input_of text ∙ begun Click word ∙ on-again input.ClickAt input.Click word target is
input-again line (input.HoverAt x y) (first, second, text, is, that) =
    ap input_of text ∙ begun Hover (first ++ (32 ∷ second)) ∙ place-again input.HoverAt input.Hover first second x y is that
input-again line (input.Hover target) (word, text, is) = ap input_of text ∙ begun Hover word ∙ on-again input.HoverAt input.Hover word target is
input-again line input.Pause is = ap input_of is ∙ pause-read
input-again line (input.Resize size) is =
    two-again Resize (two_numbers 1 1024 1 512) (IsNumber 1 1024) (IsNumber 1 512) (InTwo (IsNumber 1 1024) (NumberFault 1 1024) (NumberFault 1 512)) (two-places 1 1024 1 512)
    (λ p. input.Resize (record { width = p.0; height = p.1 })) (λ bytes. refl) line size.width size.height is
input-again line (input.AddClass target name) (first, second, text, is, that) =
    ap input_of text ∙ begun Class (first ++ (32 ∷ second)) ∙ class-again input.AddClass 43 (λ target name. refl) first second target name is that
input-again line (input.RemoveClass target name) (first, second, text, is, that) =
    ap input_of text ∙ begun Class (first ++ (32 ∷ second)) ∙ class-again input.RemoveClass 45 (λ target name. refl) first second target name is that
input-again line (input.SetText target text) is =
    two-again Text (with_target (last string_at)) IsTarget IsString (InTwo IsTarget TargetFault NoFault) two-texts (λ p. input.SetText p.0 p.1) (λ bytes. refl) line target text is
input-again line (input.SetInline target text) is =
    two-again Style (with_target last_inline) IsTarget IsInline (InTwo IsTarget TargetFault InlineFault) two-inline (λ p. input.SetInline p.0 p.1) (λ bytes. refl) line target text is
input-again line (input.Disable target) is = one-again Disable (last target_at) IsTarget TargetFault one-target input.Disable (λ bytes. refl) line target is
input-again line (input.Enable target) is = one-again Enable (last target_at) IsTarget TargetFault one-target input.Enable (λ bytes. refl) line target is
input-again line (input.Mount target row) is =
    two-again Mount (with_target last_row) IsTarget IsRow (InTwo IsTarget TargetFault RowFault) two-row (λ p. input.Mount p.0 p.1) (λ bytes. refl) line target row is
input-again line (input.Remove target) is = one-again Remove (last target_at) IsTarget TargetFault one-target input.Remove (λ bytes. refl) line target is
input-again line (input.Before target other) is =
    two-again Before (with_target (last target_at)) IsTarget IsTarget (InTwo IsTarget TargetFault TargetFault) two-targets (λ p. input.Before p.0 p.1) (λ bytes. refl) line target other is
input-again line (input.Advance target by) is =
    two-again Advance (with_target (last (number_at 0 1000000))) IsTarget (IsNumber 0 1000000) (InTwo IsTarget TargetFault (NumberFault 0 1000000)) two-advance (λ p. input.Advance p.0 p.1) (λ bytes. refl) line target by is
input-again line (input.Theme dark) is = theme-read dark line (theme-is dark line is)
  where
    theme-is : (dark : Bool) (line : List ℕ) → IsLine line (input.Theme dark) → line ≡ cond dark (codes "theme dark") (codes "theme light")
    theme-is true line is = is
    theme-is false line is = is
