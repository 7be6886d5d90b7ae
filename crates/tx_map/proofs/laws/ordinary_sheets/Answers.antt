use Rattle.tx_map.proofs.OrdinarySheets.{ordinary_sheets}
use Rattle.tx_map.proofs.laws.ordinary_sheets.Goals as goal

pub returns : goal.returns
returns c = ordinary_sheets c.one_form.ensures c.ordinary_scenes.ensures
