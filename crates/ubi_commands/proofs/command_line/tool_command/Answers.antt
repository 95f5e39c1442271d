use Rattle.ubi_commands.proofs.Prelude.{◌≡◌, ◌∙◌, IfOk-weaker, ap, codes, true, App, app_of, app_of_fields, new_app, on_top, tool, bare_tool, telling_tool, with_commands}
use Rattle.ubi_commands.proofs.CommandNames.{names_are}
use Rattle.ubi_commands.proofs.command_line.tool_command.Goals as goal

abbrev versioned : App → App
versioned = on_top (λ s. record s { has_version = true })

abbrev requiring : App → App
requiring = on_top (λ s. record s { subcommand_required = true })

pub returns-clause-app : goal.returns-clause-app
returns-clause-app c =
    let named : app_of c.about.result ≡ new_app (codes "ubi_tool") = ap app_of_fields c.about.ensures ∙ c.new.ensures.app in
    let start : app_of c.subcommand_required-tool.result ≡ bare_tool =
    ap app_of_fields c.subcommand_required-tool.ensures
    ∙ ap requiring (ap app_of_fields c.after_help.ensures ∙ ap app_of_fields c.version.ensures ∙ ap versioned named) in
    let telling : app_of c.in_ok-tool.tool ≡ telling_tool =
    c.in_ok-tool.ensures ∙ ap (λ (a : App). with_commands a c.telling_rows.result.now) start ∙ c.telling_rows.ensures in
    IfOk-weaker c.with_commands-2.result _ _
    (λ r is. is ∙ ap (λ (a : App). with_commands a c.working_rows.result.now) telling ∙ c.working_rows.ensures)
    c.with_commands-2.ensures

pub returns-clause-names : goal.returns-clause-names
unfolding tool
returns-clause-names c =
    IfOk-weaker c.with_commands-2.result _ _ (λ r is. names_are r tool is) (returns-clause-app c)
