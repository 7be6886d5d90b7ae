-- Tests of what an option holds, where it holds something.
use Rattle.std.proofs.Common.{◌≡◌, ℕ, suc, Bool, true, false, ◌&&◌, List, [], ◌∷◌, length, Option, Some, None, option_map, bytes_eq, cond, refl, ap}
use Rattle.std.specs.List.{list_all}
use Rattle.std.specs.Option.{option_zip}
use Rattle.std.proofs.lemmas.Bool.{and_parts, and_from}
use Rattle.tx_lex.specs.Lexemes.{Lexeme}
use Rattle.tx_read.specs.Words.{entry}
use Rattle.tx_value.specs.Values.{alone, joined, each, some_of}
use Rattle.tx_value.specs.Numbers.{is_within}

abbrev pub passes : {A : Type 0} → (A → Bool) → Option A → Bool
passes test None = true
passes test (Some a) = test a

-- ---- options

pub through : {A B : Type 0} → (test : B → Bool) (f : A → B) (o : Option A) → passes (λ a. test (f a)) o ≡ true → passes test (option_map f o) ≡ true
through test f None h = refl
through test f (Some a) h = h

pub weaker : {A : Type 0} → (test other : A → Bool) (o : Option A) → ((a : A) → test a ≡ true → other a ≡ true) → passes test o ≡ true → passes other o ≡ true
weaker test other None all h = refl
weaker test other (Some a) all h = all a h

pub all_pass : {A : Type 0} → (test : A → Bool) (o : Option A) → ((a : A) → test a ≡ true) → passes test o ≡ true
all_pass test None all = refl
all_pass test (Some a) all = all a

-- both of two options
pub of_both : {A B : Type 0} → (test : A → Bool) (other : B → Bool) (o : Option A) (p : Option B) → passes test o ≡ true → passes other p ≡ true
    → passes (λ both. test both.0 && other both.1) (option_zip o p) ≡ true
of_both test other None p h i = refl
of_both test other (Some a) None h i = refl
of_both test other (Some a) (Some b) h i = and_from (test a) (other b) h i

pub one_of_two : {A : Type 0} → (test : A → Bool) (b : Bool) (x y : Option A) → passes test x ≡ true → passes test y ≡ true → passes test (cond b x y) ≡ true
one_of_two test true x y p q = p
one_of_two test false x y p q = q

-- where a condition holds, which may be used
pub checked : {A : Type 0} → (test : A → Bool) (b : Bool) (x : Option A) → (b ≡ true → passes test x ≡ true) → passes test (cond b x None) ≡ true
checked test true x h = h refl
checked test false x h = refl

-- ---- tokens and tables

pub of_alone : {A : Type 0} → (test : A → Bool) (reader : Lexeme → Option A) (ts : List Lexeme) → ((t : Lexeme) → passes test (reader t) ≡ true) → passes test (alone reader ts) ≡ true
of_alone test reader [] all = refl
of_alone test reader (t ∷ []) all = all t
of_alone test reader (t ∷ t' ∷ ts) all = refl

pub of_entry : {A : Type 0} → (test : A → Bool) (rows : List (List ℕ × A)) (name : List ℕ) → list_all (λ row. test row.1) rows ≡ true → passes test (entry rows name) ≡ true
of_entry test [] name all = refl
of_entry test (row ∷ rows) name all =
    one_of_two test (bytes_eq row.0 name) (Some row.1) (entry rows name) (and_parts (test row.1) _ all).0 (of_entry test rows name (and_parts (test row.1) _ all).1)

-- as many as there are tokens, and each passes
abbrev all_of : {A : Type 0} → (A → Bool) → ℕ → Option (List A) → Type 0
all_of test n None = Unit {0}
all_of test n (Some xs) = (length xs ≡ n) × (list_all test xs ≡ true)

one_more : {A : Type 0} → (test : A → Bool) (n : ℕ) (o : Option A) (rest : Option (List A)) → passes test o ≡ true → all_of test n rest → all_of test (suc n) (joined o rest)
one_more test n None rest h more = tt
one_more test n (Some a) None h more = tt
one_more test n (Some a) (Some xs) h more = (ap suc more.0, and_from (test a) (list_all test xs) h more.1)

each_passes : {A : Type 0} → (test : A → Bool) (reader : Lexeme → Option A) (ts : List Lexeme) → ((t : Lexeme) → passes test (reader t) ≡ true) → all_of test (length ts) (each reader ts)
each_passes test reader [] all = (refl, refl)
each_passes test reader (t ∷ ts) all = one_more test (length ts) (reader t) (each reader ts) (all t) (each_passes test reader ts all)

within_passes : {A : Type 0} → (test : A → Bool) (most n : ℕ) (o : Option (List A)) → is_within 1 most n ≡ true → all_of test n o → passes (λ xs. is_within 1 most (length xs) && list_all test xs) o ≡ true
within_passes test most n None within all = refl
within_passes test most n (Some xs) within all = and_from _ (list_all test xs) (rw all.0 within) all.1

pub of_some : {A : Type 0} → (test : A → Bool) (most : ℕ) (reader : Lexeme → Option A) (ts : List Lexeme) → ((t : Lexeme) → passes test (reader t) ≡ true)
    → passes (λ xs. is_within 1 most (length xs) && list_all test xs) (some_of most reader ts) ≡ true
of_some test most reader ts all = checked _ (is_within 1 most (length ts)) (each reader ts) (λ within. within_passes test most (length ts) (each reader ts) within (each_passes test reader ts all))
