-- How a selector is read from the left.
use Rattle.std.specs.Prelude.{ℕ, zero, suc, Bool, true, false, ◌&&◌, ◌||◌, List, [], ◌∷◌, length, drop, Option, Some, None, Result, Ok, Err, if◌then◌else◌}
use Rattle.tx_read.specs.Reading.{Reader, in_turn, many, whole}
use Rattle.tx_text.specs.Name.{is_name}
use Rattle.tx_lex.specs.Lexemes.{Lexeme, is_space, is_blank, is_name_token, is_hash, is_mark, first_is}
use Rattle.tx_select.specs.Lexemes.{begins_part, begins_compound, is_child_mark}
use Rattle.tx_select.specs.Pseudo.{pseudo_of}
use Rattle.tx_select.specs.declared.value.Part.{Part}
use Rattle.tx_select.specs.declared.value.Part.TheVariants.{Id, Class, Pseudo}
use Rattle.tx_select.specs.declared.value.PseudoName.{PseudoName}
use Rattle.tx_select.specs.declared.value.Compound.{Compound}
use Rattle.tx_select.specs.declared.fault.SelectKind.{SelectKind}
use Rattle.tx_select.specs.declared.fault.SelectKind.TheVariants.{Expected, UnknownPseudo}

-- a fault is its kind and what stands from it on
abbrev pub Reads : Type 0 → Type 0
Reads A = Reader (List Lexeme) (SelectKind × List Lexeme) A

abbrev pub Read : Type 0 → Type 0
Read A = Result (A × List Lexeme) (SelectKind × List Lexeme)

abbrev pub expected : {A : Type 0} → List Lexeme → Read A
expected ts = Err (Expected, ts)

-- this, without reading on
abbrev pub give : {A : Type 0} → A → Reads A
give a ts = Ok (a, ts)

-- ---- parts

abbrev pub id_at : Lexeme → List Lexeme → Read Part
id_at t ts = if is_name (drop 1 t.bytes) then Ok (Id (drop 1 t.bytes), ts) else expected (t ∷ ts)

-- after a `.`
abbrev pub class_at : List Lexeme → Read Part
class_at [] = expected []
class_at (t ∷ ts) = if is_name_token t.kind && is_name t.bytes then Ok (Class t.bytes, ts) else expected (t ∷ ts)

abbrev pub known_pseudo : Lexeme → List Lexeme → Option PseudoName → Read Part
known_pseudo t ts (Some pseudo) = Ok (Pseudo pseudo, ts)
known_pseudo t ts None = Err (UnknownPseudo, t ∷ ts)

-- after a `:`
abbrev pub pseudo_at : List Lexeme → Read Part
pseudo_at [] = expected []
pseudo_at (t ∷ ts) = if is_name_token t.kind then known_pseudo t ts (pseudo_of t.bytes) else expected (t ∷ ts)

unfoldable pub part_at : List Lexeme → Read Part
part_at [] = expected []
part_at (t ∷ ts) =
    if is_hash t.kind then id_at t ts
    else if is_mark 46 t.kind then class_at ts
    else if is_mark 58 t.kind then pseudo_at ts
    else expected (t ∷ ts)

unfoldable pub parts_at : List Lexeme → Read (List Part)
parts_at ts = whole (many length (first_is begins_part) part_at ts)

-- ---- compounds

-- the name, or none: after a `*`, or where a part begins
unfoldable pub kind_at : List Lexeme → Read (Option (List ℕ))
kind_at [] = expected []
kind_at (t ∷ ts) =
    if is_name_token t.kind then (if is_name t.bytes then Ok (Some t.bytes, ts) else expected (t ∷ ts))
    else if is_mark 42 t.kind then Ok (None, ts)
    else if begins_part t.kind then Ok (None, t ∷ ts)
    else expected (t ∷ ts)

abbrev pub compound_of : Bool → Option (List ℕ) → List Part → Compound
compound_of child kind parts = record { child = child; kind = kind; parts = parts }

unfoldable pub compound_at : Bool → List Lexeme → Read Compound
compound_at child ts = in_turn kind_at (λ kind. in_turn parts_at (λ parts. give (compound_of child kind parts))) ts

-- ---- what stands between compounds

-- what is after spaces and comments, and whether there was a space
abbrev pub spaces_behind : Bool → List Lexeme → Bool × List Lexeme
spaces_behind spaced [] = (spaced, [])
spaces_behind spaced (t ∷ ts) = if is_blank t.kind then spaces_behind (spaced || is_space t.kind) ts else (spaced, t ∷ ts)

unfoldable pub spaces_at : List Lexeme → Bool × List Lexeme
spaces_at ts = spaces_behind false ts

-- whether a compound comes, and then whether as a child; after spaces and comments
abbrev pub joint_at : Bool → List Lexeme → Option Bool × List Lexeme
joint_at spaced [] = (None, [])
joint_at spaced (t ∷ ts) =
    if is_child_mark t.kind then (Some true, (spaces_at ts).1)
    else if spaced && begins_compound t.kind then (Some false, t ∷ ts)
    else (None, t ∷ ts)

unfoldable pub link_at : List Lexeme → Option Bool × List Lexeme
link_at ts = joint_at (spaces_at ts).0 (spaces_at ts).1

-- ---- selectors

-- the compound, with those that come after it
abbrev pub then_compounds : (Bool → Reads (List Compound)) → Compound → Option Bool → Reads (List Compound)
then_compounds more compound None = give (compound ∷ [])
then_compounds more compound (Some child) = in_turn (more child) (λ compounds. give (compound ∷ compounds))

-- At most so many compounds, the first of them joined so, and the spaces and comments after them.
unfoldable pub compounds_at : ℕ → Bool → List Lexeme → Read (List Compound)
compounds_at zero child ts = expected ts
compounds_at (suc most) child ts =
    in_turn (compound_at child) (λ compound. in_turn (λ rest. Ok (link_at rest)) (then_compounds (compounds_at most) compound)) ts

unfoldable pub selector_at : List Lexeme → Read (List Compound)
selector_at ts = compounds_at 16 false ts

-- nothing more comes
abbrev pub ended : List Compound → Reads (List Compound)
ended compounds [] = Ok (compounds, [])
ended compounds (t ∷ ts) = expected (t ∷ ts)

-- a selector with spaces and comments round it
unfoldable pub whole_at : List Lexeme → Read (List Compound)
whole_at ts = in_turn (λ rest. Ok (spaces_at rest)) (λ spaced. in_turn selector_at ended) ts
