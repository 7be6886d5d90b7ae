-- Readers that give exactly the words of a grammar, and their compositions.
use Rattle.std.proofs.Common.{◌≡◌, ◌⊎◌, inl, inr, ℕ, true, List, [], ◌∷◌, ◌++◌, Result, Ok, Err, refl, ap, sym, subst, ◌∙◌, append-nil}
use Rattle.tx_read.specs.Reading.{◌>>=◌}
use Rattle.std.specs.List.{list_all}
use Rattle.tx_tree.specs.Spelled.{no_line_feed}
use Rattle.tx_tree_file.specs.Words.{Stops}
use Rattle.tx_tree_file.proofs.lemmas.WordCuts.{all-behind}
use Rattle.tx_pilot.specs.declared.fault.LineKind.{LineKind}
use Rattle.tx_pilot.specs.declared.fault.LineKind.TheVariants.{Expected}
use Rattle.tx_pilot.specs.LineReading.{ended, last}
use Rattle.tx_pilot.specs.Lines.{InTwo}
use Rattle.tx_pilot.proofs.Steps.{bind-ok, bind-err, ok-same, ok-err, ended-ok, ended-err}

-- a blank comes first
abbrev pub Blank : List ℕ → Type 0
Blank bytes = (rest : List ℕ) × (bytes ≡ 32 ∷ rest)

-- no line feed is among the bytes
abbrev pub Whole : List ℕ → Type 0
Whole bytes = list_all no_line_feed bytes ≡ true

-- A reader of one word behind a blank: what it gives is in the grammar, what is in it is given. `Bad` are its own faults;
-- each other one is Expected.
pub record Describes {A : Type 0} (reader : List ℕ → Result (A × List ℕ) LineKind) (Is : List ℕ → A → Type 0) (Bad : LineKind → List ℕ → Type 0) : Type 0 where
  pub found : (bytes rest : List ℕ) (a : A) → reader bytes ≡ Ok (a, rest) → (word : List ℕ) × (bytes ≡ 32 ∷ (word ++ rest)) × Is word a
  pub again : (word rest : List ℕ) (a : A) → Is word a → Stops rest → reader (32 ∷ (word ++ rest)) ≡ Ok (a, rest)
  pub met : (bytes : List ℕ) (kind : LineKind) → reader bytes ≡ Err kind → (kind ≡ Expected) ⊎ Bad kind bytes
  pub meets : (bytes : List ℕ) (kind : LineKind) → Bad kind bytes → reader bytes ≡ Err kind
  pub blank : (bytes : List ℕ) (kind : LineKind) → Bad kind bytes → Blank bytes

-- the same of a reader that takes all bytes
pub record DescribesLast {A : Type 0} (reader : List ℕ → Result A LineKind) (Is : List ℕ → A → Type 0) (Bad : LineKind → List ℕ → Type 0) : Type 0 where
  pub found : (bytes : List ℕ) (a : A) → Whole bytes → reader bytes ≡ Ok a → (word : List ℕ) × (bytes ≡ 32 ∷ word) × Is word a
  pub again : (word : List ℕ) (a : A) → Is word a → reader (32 ∷ word) ≡ Ok a
  pub met : (bytes : List ℕ) (kind : LineKind) → Whole bytes → reader bytes ≡ Err kind → (kind ≡ Expected) ⊎ Bad kind bytes
  pub meets : (bytes : List ℕ) (kind : LineKind) → Bad kind bytes → reader bytes ≡ Err kind
  pub blank : (bytes : List ℕ) (kind : LineKind) → Bad kind bytes → Blank bytes

-- nor among those behind a word
rest-whole : (bytes word rest : List ℕ) → bytes ≡ 32 ∷ (word ++ rest) → Whole bytes → Whole rest
rest-whole bytes word rest text h = all-behind no_line_feed (32 ∷ word) rest (ap (list_all no_line_feed) (sym text) ∙ h)

pub stops-blank : (bytes : List ℕ) → Blank bytes → Stops bytes
stops-blank bytes (rest, text) = subst Stops (sym text) refl

-- ---- a word and the end

pub last-describes : {A : Type 0} (reader : List ℕ → Result (A × List ℕ) LineKind) (Is : List ℕ → A → Type 0) (Bad : LineKind → List ℕ → Type 0)
    → Describes reader Is Bad → DescribesLast (last reader) Is Bad
last-describes {A = A} reader Is Bad d = record {
  found = λ bytes a whole h.
      let (f, is, e) = bind-ok (reader bytes) (λ (f : A × List ℕ). ended f.0 f.1) a h in
      let (word, text, good) = d.found bytes f.1 f.0 is in
      let (nil, same) = ended-ok f.0 a f.1 e in
      (word, text ∙ ap (λ (z : List ℕ). 32 ∷ (word ++ z)) nil ∙ ap (λ (z : List ℕ). 32 ∷ z) (append-nil word), subst (Is word) same good);
  again = λ word a is.
      ap (λ (z : List ℕ). last reader (32 ∷ z)) (sym (append-nil word)) ∙ ap (λ (r : Result (A × List ℕ) LineKind). r >>= (λ f. ended f.0 f.1)) (d.again word [] a is tt);
  met = λ bytes kind whole h. either bytes kind (bind-err (reader bytes) (λ (f : A × List ℕ). ended f.0 f.1) kind h);
  meets = λ bytes kind bad. ap (λ (r : Result (A × List ℕ) LineKind). r >>= (λ f. ended f.0 f.1)) (d.meets bytes kind bad);
  blank = d.blank;
}
  where
    either : (bytes : List ℕ) (kind : LineKind) → (reader bytes ≡ Err kind) ⊎ ((f : A × List ℕ) × (reader bytes ≡ Ok f) × (ended f.0 f.1 ≡ Err kind)) → (kind ≡ Expected) ⊎ Bad kind bytes
    either bytes kind (inl e) = d.met bytes kind e
    either bytes kind (inr (f, is, e)) = inl (ended-err f.0 kind f.1 e)

-- ---- two words

abbrev pub in_two : {A B : Type 0} → (List ℕ → Result (A × List ℕ) LineKind) → (List ℕ → Result B LineKind) → List ℕ → Result (A × B) LineKind
in_two first second bytes = first bytes >>= (λ a. second a.1 >>= (λ b. Ok (a.0, b)))

pub record DescribesTwo {A B : Type 0} (reader : List ℕ → Result (A × B) LineKind) (Is : List ℕ → A → Type 0) (And : List ℕ → B → Type 0) (Bad : LineKind → List ℕ → Type 0) : Type 0 where
  pub found : (bytes : List ℕ) (p : A × B) → Whole bytes → reader bytes ≡ Ok p → (first second : List ℕ) × (bytes ≡ 32 ∷ (first ++ (32 ∷ second))) × Is first p.0 × And second p.1
  pub again : (first second : List ℕ) (a : A) (b : B) → Is first a → And second b → reader (32 ∷ (first ++ (32 ∷ second))) ≡ Ok (a, b)
  pub met : (bytes : List ℕ) (kind : LineKind) → Whole bytes → reader bytes ≡ Err kind → (kind ≡ Expected) ⊎ Bad kind bytes
  pub meets : (bytes : List ℕ) (kind : LineKind) → Bad kind bytes → reader bytes ≡ Err kind
  pub blank : (bytes : List ℕ) (kind : LineKind) → Bad kind bytes → Blank bytes

pub two-describe : {A B : Type 0} (first : List ℕ → Result (A × List ℕ) LineKind) (second : List ℕ → Result B LineKind) (Is : List ℕ → A → Type 0) (And : List ℕ → B → Type 0) (Bad Worse : LineKind → List ℕ → Type 0)
    → Describes first Is Bad → DescribesLast second And Worse → DescribesTwo (in_two first second) Is And (InTwo Is Bad Worse)
two-describe {A = A} {B = B} first second Is And Bad Worse d e = record {
  found = λ bytes p whole h.
      let (f, is, more) = bind-ok (first bytes) then_second p h in
      let (b, that, same) = bind-ok (second f.1) (λ (b : B). Ok (f.0, b)) p more in
      let (word, text, good) = d.found bytes f.1 f.0 is in
      let (next, behind, fine) = e.found f.1 b (rest-whole bytes word f.1 text whole) that in
      (word, next, text ∙ ap (λ (z : List ℕ). 32 ∷ (word ++ z)) behind, subst (λ (q : A × B). Is word q.0) (ok-same same) good, subst (λ (q : A × B). And next q.1) (ok-same same) fine);
  again = λ word next a b is that.
      ap (λ (r : Result (A × List ℕ) LineKind). r >>= then_second) (d.again word (32 ∷ next) a is refl)
      ∙ ap (λ (r : Result B LineKind). r >>= (λ b. Ok (a, b))) (e.again next b that);
  met = λ bytes kind whole h. either bytes kind whole (bind-err (first bytes) then_second kind h);
  meets = meets;
  blank = blank;
}
  where
    then_second : A × List ℕ → Result (A × B) LineKind
    then_second f = second f.1 >>= (λ b. Ok (f.0, b))

    after : (bytes : List ℕ) (kind : LineKind) (f : A × List ℕ) → Whole bytes → first bytes ≡ Ok f → (second f.1 ≡ Err kind) ⊎ ((b : B) × (second f.1 ≡ Ok b) × ◌≡◌ {A = Result (A × B) LineKind} (Ok (f.0, b)) (Err kind)) → (kind ≡ Expected) ⊎ InTwo Is Bad Worse kind bytes
    after bytes kind f whole is (inl h) =
        let (word, text, good) = d.found bytes f.1 f.0 is in
        put word text good (e.met f.1 kind (rest-whole bytes word f.1 text whole) h)
      where
        put : (word : List ℕ) → bytes ≡ 32 ∷ (word ++ f.1) → Is word f.0 → (kind ≡ Expected) ⊎ Worse kind f.1 → (kind ≡ Expected) ⊎ InTwo Is Bad Worse kind bytes
        put word text good (inl same) = inl same
        put word text good (inr bad) = inr (inr (word, f.1, f.0, text, good, bad))
    after bytes kind f whole is (inr (b, that, no_fault)) = ok-err no_fault

    either : (bytes : List ℕ) (kind : LineKind) → Whole bytes → (first bytes ≡ Err kind) ⊎ ((f : A × List ℕ) × (first bytes ≡ Ok f) × (then_second f ≡ Err kind)) → (kind ≡ Expected) ⊎ InTwo Is Bad Worse kind bytes
    either bytes kind whole (inl h) = put (d.met bytes kind h)
      where
        put : (kind ≡ Expected) ⊎ Bad kind bytes → (kind ≡ Expected) ⊎ InTwo Is Bad Worse kind bytes
        put (inl same) = inl same
        put (inr bad) = inr (inl bad)
    either bytes kind whole (inr (f, is, h)) = after bytes kind f whole is (bind-err (second f.1) (λ (b : B). Ok (f.0, b)) kind h)

    meets : (bytes : List ℕ) (kind : LineKind) → InTwo Is Bad Worse kind bytes → in_two first second bytes ≡ Err kind
    meets bytes kind (inl bad) = ap (λ (r : Result (A × List ℕ) LineKind). r >>= then_second) (d.meets bytes kind bad)
    meets bytes kind (inr (word, rest, a, text, is, bad)) =
        ap (in_two first second) text
        ∙ ap (λ (r : Result (A × List ℕ) LineKind). r >>= then_second) (d.again word rest a is (stops-blank rest (e.blank rest kind bad)))
        ∙ ap (λ (r : Result B LineKind). r >>= (λ b. Ok (a, b))) (e.meets rest kind bad)

    blank : (bytes : List ℕ) (kind : LineKind) → InTwo Is Bad Worse kind bytes → Blank bytes
    blank bytes kind (inl bad) = d.blank bytes kind bad
    blank bytes kind (inr (word, rest, a, text, is, bad)) = (word ++ rest, text)
