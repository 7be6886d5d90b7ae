-- Compounds from the last one on, over the rows from one upwards: what a climb finds is that they fit.
use Rattle.std.proofs.Common.{◌≡◌, ◌&&◌, ◌||◌, Bool, true, false, not, List, [], ◌∷◌, ◌++◌, refl, sym, ap, ◌∙◌}
use Rattle.tx_tree.specs.declared.row.Row.{Row}
use Rattle.tx_select.specs.Climb.{Test, is_last, opened, first_placed, stays_open, open_above, is_placed}
use Rattle.tx_select.specs.declared.value.Compound.{Compound}

-- whether some end of the rows passes
abbrev pub some_end : (List Row → Bool) → List Row → Bool
some_end passes [] = false
some_end passes (row ∷ rows) = passes (row ∷ rows) || some_end passes rows

-- whether the rows do, or, where it may be further up, some end of them
abbrev pub passes_on : Bool → (List Row → Bool) → List Row → Bool
passes_on true passes rows = some_end passes rows
passes_on false passes rows = passes rows

-- The first compound fits the first row, and those behind it fit further up. The last compound of a selector comes first here.
abbrev pub fits : (Row → Test) → List Compound → List Row → Bool
fits test [] rows = false
fits test (compound ∷ compounds) [] = false
fits test (compound ∷ compounds) (row ∷ rows) = test row compound && (is_last compounds || passes_on (not compound.child) (fits test compounds) rows)

-- the rest fits further up
abbrev pub fits_on : (Row → Test) → Bool → List Compound → List Row → Bool
fits_on test stays compounds rows = is_last compounds || passes_on stays (fits test compounds) rows

-- some compound may be placed at the first row, and with those before it fits from there up
abbrev fits_somewhere : (Row → Test) → List Compound → List Compound → List Bool → List Row → Bool
fits_somewhere test before (compound ∷ compounds) (here ∷ opens) rows =
    (here && passes_on (stays_open compounds) (fits test (compound ∷ before)) rows) || fits_somewhere test (compound ∷ before) compounds opens rows
fits_somewhere test before _ _ rows = false

or-false : (b : Bool) → (b || false) ≡ b
or-false true = refl
or-false false = refl

and-true : (b : Bool) → (b && true) ≡ b
and-true true = refl
and-true false = refl

passes-row : (stays : Bool) (passes : List Row → Bool) (row : Row) (rows : List Row) → passes_on stays passes (row ∷ rows) ≡ (passes (row ∷ rows) || (stays && passes_on stays passes rows))
passes-row true passes row rows = refl
passes-row false passes row rows = sym (or-false (passes (row ∷ rows)))

passes-none : (test : Row → Test) (stays : Bool) (compound : Compound) (compounds : List Compound) → passes_on stays (fits test (compound ∷ compounds)) [] ≡ false
passes-none test true compound compounds = refl
passes-none test false compound compounds = refl

nowhere-none : (test : Row → Test) (before compounds : List Compound) (opens : List Bool) → fits_somewhere test before compounds opens [] ≡ false
nowhere-none test before [] opens = refl
nowhere-none test before (compound ∷ compounds) [] = refl
nowhere-none test before (compound ∷ compounds) (true ∷ opens) =
    ap (λ b. b || fits_somewhere test (compound ∷ before) compounds opens []) (passes-none test (stays_open compounds) compound before) ∙ nowhere-none test (compound ∷ before) compounds opens
nowhere-none test before (compound ∷ compounds) (false ∷ opens) = nowhere-none test (compound ∷ before) compounds opens

-- the truth values of one step: o may be placed, h holds, b before, s stays, x further up, f the next one placed, w the others
bool-step : (o h b s x f w : Bool) → ((o && ((h && b) || (s && x))) || ((f && x) || w)) ≡ (((o && h) && b) || (((f || (o && s)) && x) || w))
bool-step false h b s x true w = refl
bool-step false h b s x false w = refl
bool-step true true true s x f w = refl
bool-step true true false true true true w = refl
bool-step true true false true true false w = refl
bool-step true true false true false true w = refl
bool-step true true false true false false w = refl
bool-step true true false false x true w = refl
bool-step true true false false x false w = refl
bool-step true false b true true true w = refl
bool-step true false b true true false w = refl
bool-step true false b true false true w = refl
bool-step true false b true false false w = refl
bool-step true false b false x true w = refl
bool-step true false b false x false w = refl

-- one row further up
somewhere-step : (test : Row → Test) (before compounds : List Compound) (opens : List Bool) (row : Row) (rows : List Row)
    → fits_somewhere test before compounds opens (row ∷ rows)
    ≡ ((first_placed (test row) compounds opens && fits_on test (stays_open compounds) before rows) || fits_somewhere test before compounds (open_above (test row) compounds opens) rows)
unfolding open_above
somewhere-step test before [] opens row rows = refl
somewhere-step test before (compound ∷ compounds) [] row rows = refl
somewhere-step test before (compound ∷ compounds) (here ∷ opens) row rows =
    let s : Bool = stays_open compounds in
    let x : Bool = passes_on s (fits test (compound ∷ before)) rows in
    let f : Bool = first_placed (test row) compounds opens in
    let w : Bool = fits_somewhere test (compound ∷ before) compounds (open_above (test row) compounds opens) rows in
    ap (λ z. (here && z) || fits_somewhere test (compound ∷ before) compounds opens (row ∷ rows)) (passes-row s (fits test (compound ∷ before)) row rows)
    ∙ (ap (λ z. (here && (fits test (compound ∷ before) (row ∷ rows) || (s && x))) || z) (somewhere-step test (compound ∷ before) compounds opens row rows)
    ∙ bool-step here (test row compound) (fits_on test (not compound.child) before rows) s x f w)

-- a climb finds whether some compound fits
placed-somewhere : (test : Row → Test) (compounds : List Compound) (opens : List Bool) (rows : List Row) → is_placed test compounds opens rows ≡ fits_somewhere test [] compounds opens rows
unfolding is_placed
placed-somewhere test compounds opens [] = sym (nowhere-none test [] compounds opens)
placed-somewhere test compounds opens (row ∷ rows) =
    let above : List Bool = open_above (test row) compounds opens in
    ap (λ z. first_placed (test row) compounds opens || z) (placed-somewhere test compounds above rows)
    ∙ (ap (λ z. z || fits_somewhere test [] compounds above rows) (sym (and-true (first_placed (test row) compounds opens)))
    ∙ sym (somewhere-step test [] compounds opens row rows))

-- the compounds turned round, before some
abbrev pub turned_onto : List Compound → List Compound → List Compound
turned_onto before [] = before
turned_onto before (compound ∷ compounds) = turned_onto (compound ∷ before) compounds

-- at first the last compound is open alone
opened-last : (test : Row → Test) (before : List Compound) (compound : Compound) (compounds : List Compound) (rows : List Row)
    → fits_somewhere test before (compound ∷ compounds) (opened (compound ∷ compounds)) rows ≡ fits test (turned_onto before (compound ∷ compounds)) rows
unfolding opened
opened-last test before compound [] rows = or-false (fits test (compound ∷ before) rows)
opened-last test before compound (next ∷ compounds) rows = opened-last test (compound ∷ before) next compounds rows

pub climb-fits : (test : Row → Test) (compounds : List Compound) (rows : List Row) → is_placed test compounds (opened compounds) rows ≡ fits test (turned_onto [] compounds) rows
climb-fits test [] rows = placed-somewhere test [] (opened []) rows
climb-fits test (compound ∷ compounds) rows = placed-somewhere test (compound ∷ compounds) (opened (compound ∷ compounds)) rows ∙ opened-last test [] compound compounds rows

-- turned round twice they are as they were
pub turned-back : (behind before compounds : List Compound) → turned_onto behind (turned_onto before compounds) ≡ turned_onto (compounds ++ behind) before
turned-back behind before [] = refl
turned-back behind before (compound ∷ compounds) = turned-back behind (compound ∷ before) compounds
