use Rattle.std.proofs.Common.{◌∙◌}
use Rattle.clap.specs.Matches.{found_of}
use Rattle.tx_app.specs.CommandLine.{words_id}
use Rattle.tx_app.proofs.CommandLemmas.{raw_values_are}
use Rattle.tx_app.proofs.words.others_in.Goals as goal

pub returns : goal.returns
returns c = c.get_strs.ensures ∙ raw_values_are (found_of c.args.given.now) words_id
