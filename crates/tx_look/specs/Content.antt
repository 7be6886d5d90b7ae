-- Where the content of a row stands: inside its padding and its border.
use Rattle.std.specs.Prelude.{List}
use Rattle.tx_geom.specs.Region.{shrunk}
use Rattle.tx_geom.specs.declared.places.Region.{Region}
use Rattle.tx_value.specs.StyleReads as style
use Rattle.tx_value.specs.declared.value.Value.{Value}

-- the content of a row that fills a region
abbrev pub content_region : List Value → Region → Region
content_region own region = shrunk region (style.gutter own)
