-- The steps of the loops.
use Rattle.std.proofs.Common.{◌≡◌, ℕ, suc, ◌+◌, Bool, true, false, cond, ◌||◌, List, [], ◌∷◌, ◌++◌, length, drop, Option, Some, None, Ok, Err, refl, ap, sym, ◌∙◌, append_assoc}
use Rattle.std.proofs.lemmas.List.{append-nil}
use Rattle.tx_lex.specs.declared.token.Token.{Token}
use Rattle.tx_read.specs.Reading.{◌>>=◌, Run, behind_items, many, whole}
use Rattle.tx_read.proofs.lemmas.ManyItems.{many-item, many-end, many-fault}
use Rattle.tx_lex.specs.Lexemes.{Lexeme, lexeme, lexemes, lexemes_from, is_blank, is_space, first_is}
use Rattle.tx_select.specs.Lexemes.{begins_part}
use Rattle.tx_select.specs.SelectorReading.{Read, expected, spaces_behind, part_at, parts_at, compound_at, link_at, then_compounds, compounds_at}
use Rattle.tx_select.specs.Answers.{GivesAmong}
use Rattle.tx_select.specs.declared.value.Part.{Part}
use Rattle.tx_select.specs.declared.value.Compound.{Compound}
use Rattle.tx_select.specs.declared.fault.TokenFault.{TokenFault}
use Rattle.tx_select.specs.declared.fault.TokenFault.TheVariants.{At, NoMemory}
use Rattle.tx_select.specs.declared.fault.SelectKind.{SelectKind}
use Rattle.tx_select.proofs.Found.{parts-shrink}

-- ---- spaces

seen : (text : List ℕ) (tokens : List Token) (n : ℕ) (t : Token) → drop n tokens ≡ t ∷ drop (n + 1) tokens → lexemes_from text tokens n ≡ lexeme text t ∷ lexemes_from text tokens (n + 1)
seen text tokens n t is = ap (lexemes text) is

pub spaces-step : (text : List ℕ) (tokens : List Token) (n : ℕ) (spaced : Bool) (t : Token) → drop n tokens ≡ t ∷ drop (n + 1) tokens → is_blank t.kind ≡ true
    → spaces_behind (spaced || is_space t.kind) (lexemes_from text tokens (n + 1)) ≡ spaces_behind spaced (lexemes_from text tokens n)
spaces-step text tokens n spaced t is blank = sym (ap (spaces_behind spaced) (seen text tokens n t is)
    ∙ ap (λ b. cond b (spaces_behind (spaced || is_space t.kind) (lexemes_from text tokens (n + 1))) (spaced, lexeme text t ∷ lexemes_from text tokens (n + 1))) blank)

pub spaces-stop : (text : List ℕ) (tokens : List Token) (n : ℕ) (spaced : Bool) (t : Token) → drop n tokens ≡ t ∷ drop (n + 1) tokens → is_blank t.kind ≡ false
    → spaces_behind spaced (lexemes_from text tokens n) ≡ (spaced, lexemes_from text tokens n)
spaces-stop text tokens n spaced t is blank = ap (spaces_behind spaced) (seen text tokens n t is)
    ∙ ap (λ b. cond b (spaces_behind (spaced || is_space t.kind) (lexemes_from text tokens (n + 1))) (spaced, lexeme text t ∷ lexemes_from text tokens (n + 1))) blank
    ∙ ap (λ ts. (spaced, ts)) (sym (seen text tokens n t is))

pub spaces-end : (text : List ℕ) (tokens : List Token) (n : ℕ) (spaced : Bool) → drop n tokens ≡ []
    → spaces_behind spaced (lexemes_from text tokens n) ≡ (spaced, lexemes_from text tokens n)
spaces-end text tokens n spaced is = ap (λ ts. spaces_behind spaced (lexemes text ts)) is ∙ ap (λ ts. (spaced, lexemes text ts)) (sym is)

-- ---- parts

abbrev pub all_from : List Lexeme → Run Part (List Lexeme) (SelectKind × List Lexeme)
all_from ts = many length (first_is begins_part) part_at ts

pub parts-item : (front : List Part) (start s next : List Lexeme) (part : Part) → first_is begins_part s ≡ true → part_at s ≡ Ok (part, next)
    → behind_items front (all_from s) ≡ all_from start → behind_items (front ++ (part ∷ [])) (all_from next) ≡ all_from start
parts-item front start s next part begins is so_far = sym (many-item length (first_is begins_part) part_at parts-shrink front s next part begins is) ∙ so_far

pub parts-end : (front : List Part) (start s : List Lexeme) → first_is begins_part s ≡ false → behind_items front (all_from s) ≡ all_from start → parts_at start ≡ Ok (front, s)
unfolding parts_at
parts-end front start s begins so_far =
    ap whole (sym so_far) ∙ ap (λ run. whole (behind_items front run)) (many-end length (first_is begins_part) part_at parts-shrink s begins)
    ∙ ap (λ items. Ok (items, s)) (append-nil front)

parts-fault : (front : List Part) (start s : List Lexeme) (fault : SelectKind × List Lexeme) → first_is begins_part s ≡ true → part_at s ≡ Err fault
    → behind_items front (all_from s) ≡ all_from start → parts_at start ≡ Err fault
unfolding parts_at
parts-fault front start s fault begins is so_far =
    ap whole (sym so_far) ∙ ap (λ run. whole (behind_items front run)) (many-fault length (first_is begins_part) part_at parts-shrink s fault begins is)

pub parts-err : (text : List ℕ) (tokens : List Token) (front : List Part) (start s : List Lexeme) (fault : TokenFault) → first_is begins_part s ≡ true
    → GivesAmong {A = Part} text tokens (Err fault) (part_at s) → behind_items front (all_from s) ≡ all_from start → GivesAmong {A = List Part} text tokens (Err fault) (parts_at start)
parts-err text tokens front start s (At kind at) begins is so_far = parts-fault front start s (kind, lexemes_from text tokens at) begins is so_far
parts-err text tokens front start s NoMemory begins is so_far = tt

-- ---- compounds

-- these compounds before those that are read
abbrev pub with_front : List Compound → Read (List Compound) → Read (List Compound)
with_front front (Ok found) = Ok (front ++ found.0, found.1)
with_front front (Err fault) = Err fault

with_front-then : (front : List Compound) (compound : Compound) (read : Read (List Compound))
    → with_front front (read >>= (λ found. Ok (compound ∷ found.0, found.1))) ≡ with_front (front ++ (compound ∷ [])) read
with_front-then front compound (Ok found) = ap (λ items. Ok (items, found.1)) (sym (append_assoc front (compound ∷ []) found.0))
with_front-then front compound (Err fault) = refl

-- what comes behind a compound
abbrev pub behind_compound : ℕ → Compound → Option Bool × List Lexeme → Read (List Compound)
behind_compound most compound link = then_compounds (compounds_at most) compound link.0 link.1

compounds-first : (most : ℕ) (child : Bool) (s next : List Lexeme) (compound : Compound) → compound_at child s ≡ Ok (compound, next)
    → compounds_at (suc most) child s ≡ behind_compound most compound (link_at next)
unfolding compounds_at
compounds-first most child s next compound is = ap (λ r. r >>= (λ found. behind_compound most found.0 (link_at found.1))) is

pub compounds-next : (most rest : ℕ) (child next_child : Bool) (front : List Compound) (start : Read (List Compound)) (s next behind : List Lexeme) (compound : Compound) → most ≡ suc rest
    → compound_at child s ≡ Ok (compound, next) → link_at next ≡ (Some next_child, behind)
    → with_front front (compounds_at most child s) ≡ start → with_front (front ++ (compound ∷ [])) (compounds_at rest next_child behind) ≡ start
compounds-next most rest child next_child front start s next behind compound count is link so_far =
    sym (ap (λ n. with_front front (compounds_at n child s)) count
    ∙ ap (with_front front) (compounds-first rest child s next compound is)
    ∙ ap (λ l. with_front front (behind_compound rest compound l)) link
    ∙ with_front-then front compound (compounds_at rest next_child behind)) ∙ so_far

pub compounds-last : (most rest : ℕ) (child : Bool) (front : List Compound) (start : Read (List Compound)) (s next behind : List Lexeme) (compound : Compound) → most ≡ suc rest
    → compound_at child s ≡ Ok (compound, next) → link_at next ≡ (None, behind)
    → with_front front (compounds_at most child s) ≡ start → start ≡ Ok (front ++ (compound ∷ []), behind)
compounds-last most rest child front start s next behind compound count is link so_far =
    sym so_far ∙ ap (λ n. with_front front (compounds_at n child s)) count
    ∙ ap (with_front front) (compounds-first rest child s next compound is)
    ∙ ap (λ l. with_front front (behind_compound rest compound l)) link

compounds-bad : (rest : ℕ) (child : Bool) (s : List Lexeme) (fault : SelectKind × List Lexeme) → compound_at child s ≡ Err fault → compounds_at (suc rest) child s ≡ Err fault
unfolding compounds_at
compounds-bad rest child s fault is = ap (λ r. r >>= (λ found. behind_compound rest found.0 (link_at found.1))) is

pub compounds-err : (text : List ℕ) (tokens : List Token) (most rest : ℕ) (child : Bool) (front : List Compound) (start : Read (List Compound)) (s : List Lexeme) (fault : TokenFault) → most ≡ suc rest
    → GivesAmong {A = Compound} text tokens (Err fault) (compound_at child s) → with_front front (compounds_at most child s) ≡ start → GivesAmong {A = List Compound} text tokens (Err fault) start
compounds-err text tokens most rest child front start s (At kind at) count is so_far =
    sym so_far ∙ ap (λ n. with_front front (compounds_at n child s)) count
    ∙ ap (with_front front) (compounds-bad rest child s (kind, lexemes_from text tokens at) is)
compounds-err text tokens most rest child front start s NoMemory count is so_far = tt

-- the compound past the last one that is allowed
pub compounds-past : (most : ℕ) (child : Bool) (front : List Compound) (start : Read (List Compound)) (s : List Lexeme) → most ≡ 0
    → with_front front (compounds_at most child s) ≡ start → start ≡ expected s
unfolding compounds_at
compounds-past most child front start s none so_far = sym so_far ∙ ap (λ n. with_front front (compounds_at n child s)) none

pub compounds-begin : (read : Read (List Compound)) → with_front [] read ≡ read
compounds-begin (Ok found) = refl
compounds-begin (Err fault) = refl
