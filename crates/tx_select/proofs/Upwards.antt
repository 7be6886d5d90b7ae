-- One row further up, and where nothing is open.
use Rattle.std.proofs.Common.{◌≡◌, ◌||◌, Bool, true, false, List, [], ◌∷◌, refl, sym, ap, ◌∙◌}
use Rattle.std.proofs.lemmas.Bool.{true≢false}
use Rattle.tx_tree.specs.declared.row.Row.{Row}
use Rattle.tx_tree.specs.Rows.{ancestors_of}
use Rattle.tx_select.specs.Holds.{compound_holds}
use Rattle.tx_select.specs.Climb.{Test, opened, first_placed, some_open, open_above, is_placed, climbs_from}
use Rattle.tx_select.specs.declared.value.Pseudo.{Pseudo as State}
use Rattle.tx_select.specs.declared.value.Compound.{Compound}

none-first : (test : Test) (compounds : List Compound) (opens : List Bool) → some_open opens ≡ false → first_placed test compounds opens ≡ false
none-first test [] opens none = refl
none-first test (compound ∷ compounds) [] none = refl
none-first test (compound ∷ compounds) (true ∷ opens) none = absurd (true≢false none)
none-first test (compound ∷ compounds) (false ∷ opens) none = refl

none-above : (test : Test) (compounds : List Compound) (opens : List Bool) → some_open opens ≡ false → some_open (open_above test compounds opens) ≡ false
unfolding open_above
none-above test [] opens none = none
none-above test (compound ∷ compounds) [] none = none
none-above test (compound ∷ compounds) (true ∷ opens) none = absurd (true≢false none)
none-above test (compound ∷ compounds) (false ∷ opens) none =
    let first : first_placed test compounds opens ≡ false = none-first test compounds opens none in
    ap (λ b. (b || false) || some_open (open_above test compounds opens)) first ∙ none-above test compounds opens none

pub none-placed : (test : Row → Test) (compounds : List Compound) (opens : List Bool) (rows : List Row) → some_open opens ≡ false → is_placed test compounds opens rows ≡ false
unfolding is_placed
none-placed test compounds opens [] none = refl
none-placed test compounds opens (row ∷ rows) none =
    ap (λ b. b || is_placed test compounds (open_above (test row) compounds opens) rows) (none-first (test row) compounds opens none)
    ∙ none-placed test compounds (open_above (test row) compounds opens) rows (none-above (test row) compounds opens none)

-- where the first compound is placed at this row, that is all
pub placed-here : (test : Row → Test) (compounds : List Compound) (opens : List Bool) (row : Row) (rows rest : List Row) → rows ≡ row ∷ rest → first_placed (test row) compounds opens ≡ true
    → is_placed test compounds opens rows ≡ true
unfolding is_placed
placed-here test compounds opens row rows rest is here =
    ap (is_placed test compounds opens) is ∙ ap (λ b. b || is_placed test compounds (open_above (test row) compounds opens) rest) here

-- else it is placed further up, or nowhere
pub placed-above : (test : Row → Test) (compounds : List Compound) (opens above : List Bool) (row : Row) (rows rest : List Row) → rows ≡ row ∷ rest → first_placed (test row) compounds opens ≡ false
    → above ≡ open_above (test row) compounds opens → is_placed test compounds above rest ≡ is_placed test compounds opens rows
unfolding is_placed
placed-above test compounds opens above row rows rest is here goes =
    ap (λ o. is_placed test compounds o rest) goes
    ∙ sym (ap (is_placed test compounds opens) is ∙ ap (λ b. b || is_placed test compounds (open_above (test row) compounds opens) rest) here)

pub placed-nowhere : (test : Row → Test) (compounds : List Compound) (opens : List Bool) (rows : List Row) → rows ≡ [] → is_placed test compounds opens rows ≡ false
unfolding is_placed
placed-nowhere test compounds opens rows is = ap (is_placed test compounds opens) is

-- the first row is the row asked
pub climb-here : (state : State) (rows : List Row) (compounds : List Compound) (opens : List Bool) (row : Row) → opens ≡ opened compounds → first_placed (compound_holds state rows row) compounds opens ≡ true
    → climbs_from state rows compounds row ≡ true
unfolding climbs_from
climb-here state rows compounds opens row is here =
    placed-here (compound_holds state rows) compounds (opened compounds) row (row ∷ ancestors_of row.node.0 rows) (ancestors_of row.node.0 rows) refl
    (ap (first_placed (compound_holds state rows row) compounds) (sym is) ∙ here)

pub climb-above : (state : State) (rows : List Row) (compounds : List Compound) (opens above : List Bool) (row : Row) → opens ≡ opened compounds → first_placed (compound_holds state rows row) compounds opens ≡ false
    → above ≡ open_above (compound_holds state rows row) compounds opens
    → is_placed (compound_holds state rows) compounds above (ancestors_of row.node.0 rows) ≡ climbs_from state rows compounds row
unfolding climbs_from
climb-above state rows compounds opens above row is here goes =
    placed-above (compound_holds state rows) compounds (opened compounds) above row (row ∷ ancestors_of row.node.0 rows) (ancestors_of row.node.0 rows) refl
    (ap (first_placed (compound_holds state rows row) compounds) (sym is) ∙ here) (goes ∙ ap (open_above (compound_holds state rows row) compounds) is)
