use Rattle.std.proofs.Common.{rules, ◌≡◌, ◌∙◌, ◌||◌, ap, ap₂, true, codes, []}
use Rattle.std.proofs.lemmas.Result.{IfOk-weaker}
use Rattle.clap.specs.Simple.{App, Shape, app_of, app_of_fields, shape_of, new_app, on_top, with_rule, with_subcommand}
use Rattle.tx_app.specs.CommandLine.{mode_shape}
use Rattle.tx_app.specs.Words.{size_options}
use Rattle.tx_app.proofs.command_line.command.Goals as goal

abbrev top_of : App → Shape
top_of a = a.top

pub returns : goal.returns
returns c =
    let check_is : shape_of c.in_ok-check.check ≡ mode_shape (codes "check") [] =
    ap top_of (c.in_ok-check.ensures.shape (search rules) ∙ ap₂ with_rule c.new.ensures.app c.others.ensures.rule) in
    let query_is : shape_of c.in_ok-query.query ≡ mode_shape (codes "query") [] =
    ap top_of (c.in_ok-query.ensures.shape (search rules) ∙ ap₂ with_rule c.new-2.ensures.app c.others-2.ensures.rule) in
    let show_is : shape_of c.in_ok-show.show ≡ mode_shape (codes "show") size_options =
    ap top_of (c.in_ok-show.ensures.shape (search rules)
    ∙ ap₂ with_rule (c.in_ok-arg-2.ensures.shape (search rules)
    ∙ ap₂ with_rule (c.in_ok-arg.ensures.shape (search rules) ∙ ap₂ with_rule c.new-3.ensures.app c.option.ensures.rule) c.option-2.ensures.rule) c.others-3.ensures.rule) in
    let help : app_of c.disable_help_flag.result ≡ on_top (λ s. record s { disable_help_flag = true }) (new_app (codes "tx")) =
    ap app_of_fields c.disable_help_flag.ensures ∙ ap (on_top (λ s. record s { disable_help_flag = true })) c.new-4.ensures.app in
    let mode : app_of c.disable_help_subcommand.result ≡ on_top (λ s. record s { disable_help_flag = true; disable_help_subcommand = true }) (new_app (codes "tx")) =
    ap app_of_fields c.disable_help_subcommand.ensures ∙ ap (on_top (λ s. record s { disable_help_subcommand = true })) help in
    let version : app_of c.disable_version_flag.result ≡ on_top (λ s. record s { disable_help_flag = true; disable_help_subcommand = true; disable_version_flag = true }) (new_app (codes "tx")) =
    ap app_of_fields c.disable_version_flag.ensures ∙ ap (on_top (λ s. record s { disable_version_flag = true })) mode in
    let top : app_of c.subcommand_required.result ≡ on_top (λ s. record s { disable_help_flag = true; disable_help_subcommand = true; disable_version_flag = true; subcommand_required = true }) (new_app (codes "tx")) =
    ap app_of_fields c.subcommand_required.ensures ∙ ap (on_top (λ s. record s { subcommand_required = true })) version in
    let check_local = c.in_ok-check.ensures.globals ∙ ap₂ ◌||◌ c.new.ensures.local c.others.ensures.local in
    let query_local = c.in_ok-query.ensures.globals ∙ ap₂ ◌||◌ c.new-2.ensures.local c.others-2.ensures.local in
    let wide_local = c.in_ok-arg.ensures.globals ∙ ap₂ ◌||◌ c.new-3.ensures.local c.option.ensures.local in
    let high_local = c.in_ok-arg-2.ensures.globals ∙ ap₂ ◌||◌ wide_local c.option-2.ensures.local in
    let show_local = c.in_ok-show.ensures.globals ∙ ap₂ ◌||◌ high_local c.others-3.ensures.local in
    let first = c.in_ok-subcommand.ensures.shape check_local ∙ ap₂ with_subcommand top check_is in
    let second = c.in_ok-subcommand-2.ensures.shape query_local ∙ ap₂ with_subcommand first query_is in
    IfOk-weaker c.subcommand-3.result _ _ (λ made h. h.shape show_local ∙ ap₂ with_subcommand second show_is) c.subcommand-3.ensures
