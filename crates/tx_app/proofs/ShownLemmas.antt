-- The picture of what is shown first.
use Rattle.std.proofs.Common.{◌≡◌, ℕ, List, [], Option, Result, Ok, Err, refl, sym, ap, ◌∙◌, subst, arith}
use Rattle.std.proofs.lemmas.Bool.{false≢true}
use Rattle.std.specs.Prelude.{IsOk}
use Rattle.tx_cell.specs.Grid.{GridValue}
use Rattle.tx_compose.specs.Presented.{IsScreen, Presented, composed, map_of, presented, styling}
use Rattle.tx_geom.specs.declared.choices.Axis.{Axis}
use Rattle.tx_geom.specs.declared.places.Size.{Size}
use Rattle.tx_map.specs.Faults.{told}
use Rattle.tx_map.specs.LayoutMap.{Mapped, layout_map}
use Rattle.tx_map.specs.OrdinarySheets.{AreOrdinaryTexts, IsOrdinarySheet, IsOrdinaryTree, OrdinarySheets}
use Rattle.tx_map.specs.Present.{scene_of}
use Rattle.tx_map.specs.declared.entry.Entry.{Entry}
use Rattle.tx_map.specs.declared.fault.ComposeFault.{ComposeFault}
use Rattle.tx_map.specs.declared.fault.ComposeFault.TheVariants.{Fraction}
use Rattle.tx_node_map.specs.Held.{held, nothing}
use Rattle.tx_parse.specs.Values.{SheetValue}
use Rattle.tx_picture.specs.Picture.{picture}
use Rattle.tx_read.specs.Answer.{Gives, Tells}
use Rattle.tx_read.specs.Reading.{◌>>=◌}
use Rattle.tx_select.specs.declared.value.Pseudo.{Pseudo}
use Rattle.tx_tree.specs.declared.row.NodeId.{NodeId}
use Rattle.tx_tree.specs.declared.row.Row.{Row}
use Rattle.tx_app.specs.FirstShown.{at_first}

-- scrolls in which nothing is said of any row are none
same_map : (sheet : SheetValue) (rows : List Row) (pseudo : Pseudo) (scrolls : List (Option (ℕ × ℕ))) (size : Size) → held scrolls ≡ nothing
    → map_of (presented sheet rows pseudo scrolls size) ≡ map_of (presented sheet rows pseudo [] size)
unfolding map_of
same_map sheet rows pseudo scrolls size none = ap (λ at. layout_map (scene_of (styling (presented sheet rows pseudo [] size)) at size)) none

pub unscrolled : (sheet : SheetValue) (rows : List Row) (pseudo : Pseudo) (scrolls : List (Option (ℕ × ℕ))) (size : Size) → held scrolls ≡ nothing
    → composed (presented sheet rows pseudo scrolls size) ≡ composed (presented sheet rows pseudo [] size)
unscrolled sheet rows pseudo scrolls size none =
    ap (λ map. map >>= (λ entries. Ok (picture (styling (presented sheet rows pseudo [] size)) entries size))) (same_map sheet rows pseudo scrolls size none)

-- a picture has the size of the screen
pub sized_by : (shown : Presented) (map : Mapped (List Entry)) (grid : GridValue) → (map >>= (λ entries. Ok (picture (styling shown) entries shown.size))) ≡ Ok grid → grid.size ≡ shown.size
sized_by shown (Ok entries) grid is =
    let same : picture (styling shown) entries shown.size ≡ grid = (let e : Ok (picture (styling shown) entries shown.size) ≡ Ok grid = is in cc) in
    sym (ap (λ (g : GridValue). g.size) same)
sized_by shown (Err fault) grid is = absurd (let e : ◌≡◌ {A = Mapped GridValue} (Err fault) (Ok grid) = is in cc)

pub sized : (shown : Presented) (grid : GridValue) → composed shown ≡ Ok grid → grid.size ≡ shown.size
sized shown grid is = sized_by shown (map_of shown) grid is

pub size-at_first : (size : Size) → (at_first size).size ≡ size
unfolding at_first
size-at_first size = refl

-- a call that answers the picture with such scrolls answers that of none
pub Gives-unscrolled : {R : Type 0} (view : R → GridValue) (result : Result R ComposeFault) (sheet : SheetValue) (rows : List Row) (pseudo state : Pseudo)
    (scrolls : List (Option (ℕ × ℕ))) (size : Size) → pseudo ≡ state → held scrolls ≡ nothing
    → Gives view told result (composed (presented sheet rows pseudo scrolls size)) → Gives view told result (composed (presented sheet rows state [] size))
Gives-unscrolled view result sheet rows pseudo state scrolls size same none gives =
    subst (Gives view told result) (unscrolled sheet rows pseudo scrolls size none ∙ ap (λ p. composed (presented sheet rows p [] size)) same) gives

-- what a fraction tells of the picture
pub tells-fraction : (fault : ComposeFault) (node : NodeId) (axis : Axis) (meant : Mapped GridValue) → fault ≡ Fraction node axis → Tells (told fault) meant → meant ≡ Err (node, axis)
tells-fraction fault node axis meant is tells = subst (λ f. Tells (told f) meant) is tells

-- ---- a defined picture

defined_by : (shown : Presented) (map : Mapped (List Entry)) → IsOk map → IsOk (map >>= (λ entries. Ok (picture (styling shown) entries shown.size)))
defined_by shown (Ok entries) is = refl
defined_by shown (Err fault) is = absurd (false≢true is)

ordinary_map : OrdinarySheets → (shown : Presented) → IsScreen shown.size → IsOrdinarySheet shown.sheet → AreOrdinaryTexts shown.rows → IsOrdinaryTree shown.rows → IsOk (map_of shown)
unfolding map_of
ordinary_map sheets shown limits sheet texts tree =
    sheets (styling shown) (held shown.scrolls) shown.size sheet texts tree (record { width = omega (arith, limits.width); height = omega (arith, limits.height) })

pub ordinary : OrdinarySheets → (shown : Presented) → IsScreen shown.size → IsOrdinarySheet shown.sheet → AreOrdinaryTexts shown.rows → IsOrdinaryTree shown.rows → IsOk (composed shown)
ordinary sheets shown limits sheet texts tree = defined_by shown (map_of shown) (ordinary_map sheets shown limits sheet texts tree)
