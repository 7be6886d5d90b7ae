use Rattle.std.proofs.Common.{◌<◌, ◌^◌, length, subst, sym}
use Rattle.std.specs.List.{All}
use Rattle.tx_widgets.proofs.LineLemmas.{text_lines-short}
use Rattle.tx_widgets.proofs.drawing.rows.list_row.Goals as goal

pub option_row-requires : goal.option_row-requires
option_row-requires c = record {
  short = subst (λ lines. All (λ line. length line < 2 ^ 32) lines) (sym c.requires.options) (text_lines-short (2 ^ 32) c.args.face.now.text.now c.requires.short);
}
