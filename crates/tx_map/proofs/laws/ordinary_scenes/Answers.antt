use Rattle.tx_map.proofs.Ordinary.{ordinary_scenes}
use Rattle.tx_map.proofs.laws.ordinary_scenes.Goals as goal

pub returns : goal.returns
returns c =
    ordinary_scenes
    (record {
      children = c.ordinary_children.ensures;
      bars = c.defined_where_arranged.ensures;
      shown = c.shows_the_arrangement_beside_the_bars.ensures;
      rows = c.ordinary_rows.ensures;
    })
