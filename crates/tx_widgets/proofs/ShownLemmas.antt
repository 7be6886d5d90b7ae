-- What counts is seen: the cursor, the chosen line, and both ends of a bar.
use Rattle.std.proofs.Common.{◌≡◌, ◌∙◌, ◌-◌, ◌*◌, ◌/◌, ℕ, ◌++◌, replicate, ap, arith, append-nil}
use Rattle.std.proofs.Math.Nat.{mul-div_cancel, zero-div}
use Rattle.tx_cell.specs.declared.pen.Pen.{Pen}
use Rattle.tx_widgets.specs.Drawing.{bar_row, thick, thin}
use Rattle.tx_widgets.specs.Laws.{BarsReachTheirEnds, ChosenAreShown, CursorsAreShown}

pub cursors-shown : CursorsAreShown
cursors-shown at width pen text some = record { from = omega (arith, some); before = omega (arith, some) }

pub chosen-shown : ChosenAreShown
chosen-shown chosen height some = record { from = omega (arith, some); before = omega (arith, some) }

none-done : (width total : ℕ) → width * 0 / total ≡ 0
none-done width total = let none : width * 0 ≡ 0 = omega arith in ap (λ n. n / total) none ∙ zero-div total

bar-none : (width done : ℕ) (pen : Pen) → done ≡ 0 → bar_row done width pen ≡ replicate width (thin pen)
bar-none width done pen none =
    let rest : width - 0 ≡ width = omega arith in
    ap (λ n. bar_row n width pen) none ∙ ap (λ n. replicate n (thin pen)) rest

bar-all : (width done : ℕ) (pen : Pen) → done ≡ width → bar_row done width pen ≡ replicate width (thick pen)
bar-all width done pen all =
    let rest : width - width ≡ 0 = omega arith in
    ap (λ n. bar_row n width pen) all ∙ (ap (λ n. replicate width (thick pen) ++ replicate n (thin pen)) rest ∙ append-nil (replicate width (thick pen)))

pub bars-ends : BarsReachTheirEnds
bars-ends width total pen some = record {
  none = bar-none width (width * 0 / total) pen (none-done width total);
  all = bar-all width (width * total / total) pen (mul-div_cancel width some);
}
