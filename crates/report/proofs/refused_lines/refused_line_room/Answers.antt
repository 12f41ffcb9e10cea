use Rattle.std.proofs.Common.{◌≤◌, ◌+◌, ◌∙◌, ℕ, List, ap, length, subst, sym}
use Rattle.semantics.specs.Columns.{Field, names_of}
use Rattle.semantics.specs.Texts.{refused_line}
use Rattle.report.specs.Report.{longest}
use Rattle.report.proofs.Room.{line-fits}
use Rattle.report.proofs.refused_lines.refused_line_room.Goals as goal

pub returns : goal.returns
returns c =
    let fields = c.args.schema.now in
    let room = ap (λ (n : ℕ). 48 + n) (c.longest_name.ensures.longest ∙ ap (λ (fs : List Field). longest (names_of fs)) c.columns.ensures.columns) in
    record {
      room = room;
      enough = λ number fault small. subst (λ (n : ℕ). length (refused_line fields (number, fault)) ≤ n) (sym room) (line-fits fields number fault small);
    }
