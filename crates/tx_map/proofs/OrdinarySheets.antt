-- The map of an ordinary tree with an ordinary sheet is defined.
use Rattle.tx_cascade.specs.Styles.{all_styles}
use Rattle.tx_frac.specs.Laws.{OneForm}
use Rattle.tx_map.specs.Ordinary.{OrdinaryScenes}
use Rattle.tx_map.specs.OrdinarySheets.{OrdinarySheets}
use Rattle.tx_map.specs.Present.{scene_of}
use Rattle.tx_map.proofs.OrdinaryRows.{rows_ordinary}
use Rattle.tx_map.proofs.OrdinaryStyles.{own_style}

pub ordinary_sheets : OneForm → OrdinaryScenes → OrdinarySheets
ordinary_sheets forms scenes styles scrolls size sheet texts tree screen =
    scenes (scene_of styles scrolls size)
    (record {
      tree = rows_ordinary (all_styles styles.sheet styles.state styles.rows) styles.rows (λ n. own_style forms styles.sheet styles.state styles.rows n sheet texts) tree;
      pictures = λ n. tt;
      screen = screen;
    })
