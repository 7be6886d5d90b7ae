-- Scenes whose numbers are as stylesheets write them, and that their maps are defined.
use Rattle.std.specs.Prelude.{IsOk}
use Rattle.tx_box.specs.Ordinary.{IsOrdinarySize}
use Rattle.tx_map.specs.LayoutMap.{layout_map}
use Rattle.tx_map.specs.Scene.{Scene, rows_of}
use Rattle.tx_sizes.specs.Ordinary.{AreOrdinary, AreOrdinaryPictures}

-- The sizes in all styles have at most 9 whole digits and 3 decimals, each row has at most 1,000 children, and the screen has sides of
-- at most 2^23 cells.
pub record IsOrdinaryScene (scene : Scene) : Type 0 where
  pub tree : AreOrdinary (rows_of scene)
  pub pictures : AreOrdinaryPictures scene.pictures
  pub screen : IsOrdinarySize scene.size

-- such a scene has its map
abbrev pub OrdinaryScenes : Type 0
OrdinaryScenes = (scene : Scene) → IsOrdinaryScene scene → IsOk (layout_map scene)
