-- What an input comes to is determined, and so is which keys are one.
use Rattle.std.proofs.Common.{◌≡◌, Bool, true, false, List, [], ◌∷◌, Option, Some, None, refl, sym, ap, ◌∙◌, inl, inr}
use Rattle.std.specs.Prelude.{filter, map}
use Rattle.std.proofs.lemmas.Bool.{cases_Bool, eq-eqb, eqb-true, false≢true}
use Rattle.tx_select.specs.Match.{IsFirstMatch, first_node}
use Rattle.tx_select.specs.SelectorValue.{SelectorValue}
use Rattle.tx_select.specs.declared.value.Compound.{Compound}
use Rattle.tx_select.specs.declared.value.Pseudo.{Pseudo as State}
use Rattle.tx_tree.specs.declared.bind.Key.{Key}
use Rattle.tx_tree.specs.declared.bind.Key.TheVariants.{Char, Enter, Escape, Tab, ShiftTab, Backspace, Delete, Up, Down, Left, Right, Home, End, PageUp, PageDown, Function, Ctrl}
use Rattle.tx_tree.specs.declared.row.NodeId.{NodeId}
use Rattle.tx_tree.specs.declared.row.Row.{Row}
use Rattle.tx_route.specs.Bindings.{is_same}
use Rattle.tx_route.specs.Laws.{DeliveriesAreOne, KeysAreTold}
use Rattle.tx_route.specs.Routing.{IsMeant, delivered}

-- two tests that tell the same of each row keep the same rows
one-filter : (a b : Row → Bool) → ((row : Row) → a row ≡ b row) → (rows : List Row) → filter a rows ≡ filter b rows
one-filter a b same [] = refl
one-filter a b same (row ∷ rows) = elim (cases_Bool (a row)) [
  | inl passes ↦ rw (passes, sym (same row) ∙ passes) (ap (λ (rs : List Row). row ∷ rs) (one-filter a b same rows))
  | inr fails ↦ rw (fails, sym (same row) ∙ fails) (one-filter a b same rows)
]

-- truth values that follow from each other are one
one-truth : (a b : Bool) → (a ≡ true → b ≡ true) → (b ≡ true → a ≡ true) → a ≡ b
one-truth true b there back = sym (there refl)
one-truth false true there back = absurd (false≢true (back refl))
one-truth false false there back = refl

one-first : (state : State) (rows : List Row) (compounds : List Compound) (a b : Option NodeId) → IsFirstMatch state rows compounds a → IsFirstMatch state rows compounds b → a ≡ b
one-first state rows compounds a b one other =
    one.is
    ∙ (ap first_node
    (one.all.are
    ∙ (ap (map (λ row. row.node)) (one-filter one.all.test other.all.test (λ row. one-truth (one.all.test row) (other.all.test row) (λ e. other.all.whole row (one.all.sound row e)) (λ e. one.all.whole row (other.all.sound row e))) rows)
    ∙ sym other.all.are))
    ∙ sym other.is)

one-meant : (state : State) (rows : List Row) (selector : Option SelectorValue) (a b : Option NodeId) → IsMeant state rows selector a → IsMeant state rows selector b → a ≡ b
one-meant state rows None a b one other = one ∙ sym other
one-meant state rows (Some selector) a b one other = one-first state rows selector.compounds a b one other

pub deliveries-are-one : DeliveriesAreOne
deliveries-are-one tree state frame input one other are also =
    are.are
    ∙ (ap (λ target. delivered tree state.focused frame input target are.other) (one-meant state tree.rows _ are.target also.target are.target_is also.target_is)
    ∙ (ap (delivered tree state.focused frame input also.target) (one-meant state tree.rows _ are.other also.other are.other_is also.other_is) ∙ sym also.are))

pub keys-are-told : KeysAreTold
keys-are-told a b = (told a b, same a b)
  where
    told : (a b : Key) → is_same a b ≡ true → a ≡ b
    told (Char a) (Char b) e = ap Char (eqb-true a b e)
    told (Function a) (Function b) e = ap Function (eqb-true a b e)
    told (Ctrl a) (Ctrl b) e = ap Ctrl (eqb-true a b e)
    told Enter Enter e = refl
    told Escape Escape e = refl
    told Tab Tab e = refl
    told ShiftTab ShiftTab e = refl
    told Backspace Backspace e = refl
    told Delete Delete e = refl
    told Up Up e = refl
    told Down Down e = refl
    told Left Left e = refl
    told Right Right e = refl
    told Home Home e = refl
    told End End e = refl
    told PageUp PageUp e = refl
    told PageDown PageDown e = refl
    told _ _ e = absurd (false≢true e)

    own : (a : Key) → is_same a a ≡ true
    own (Char a) = eq-eqb a a refl
    own (Function a) = eq-eqb a a refl
    own (Ctrl a) = eq-eqb a a refl
    own _ = refl

    same : (a b : Key) → a ≡ b → is_same a b ≡ true
    same a b e = ap (is_same a) (sym e) ∙ own a
