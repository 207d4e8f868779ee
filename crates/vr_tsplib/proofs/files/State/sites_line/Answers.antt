use Rattle.std.proofs.Common.{sym, ap₂, ◌∙◌}
use Rattle.vr_tsplib.specs.Files.{with_place, sites_line}
use Rattle.vr_tsplib.specs.Rows.{site_row}
use Rattle.vr_tsplib.specs.Texts.{words}
use Rattle.vr_tsplib.proofs.LineSteps.{gives, known}
use Rattle.vr_tsplib.proofs.files.State.sites_line.Goals as goal

pub returns : goal.returns
unfolding sites_line
returns c =
    let same = ap₂ (λ n rows. site_row n rows (words c.args.line.now)) (sym c.node_count.ensures) (sym c.as_slice.ensures) in
    known _ (same ∙ sym c.in_ok-row.ensures)
    (gives (ap₂ (λ next rows. record (with_place c.args.self.now next) { sites = rows }) c.sites_left-self.ensures c.in_ok-push.ensures.ok))
