use mir.ValLaws.{Fits-prop}
use Rattle.std.proofs.Common.{◌≡◌, ◌+◌, ◌++◌, ◌∷◌, [], List, sym, ap, subst, ◌∙◌, arith}
use Rattle.std.proofs.Math.Logic.{∥∥₁_elim, ∥∥₁_map}
use Rattle.lines.specs.Checked.{line_bytes}
use Rattle.semantics.specs.declared.line_fault.LineRefusal.{LineRefusal}
use Rattle.semantics.specs.Records.{IsRefusal, decode_line}
use Rattle.tables.specs.declared.fold.Folding.{Folding}
use Rattle.tables.specs.Inside.Folding.{HasRead}
use Rattle.tables.specs.Folding.{valid_records_of}
use Rattle.semantics.specs.Conditions.{kept_records}
use Rattle.semantics.specs.Sets.{grouping_places}
use Rattle.semantics.specs.Aggregates.{AggregateFunction}
use Rattle.group_tables.specs.Table.{IsTableOf}
use Rattle.tables.specs.Functions.{filter_tests}
use Rattle.tables.proofs.Bound.{bound-functions}
use Rattle.tables.proofs.Reading.{length-kept_behind, length-refused_of, read-err, read-ok}
use Rattle.tables.proofs.fold.Folding.read.Goals as goal
use Rattle.tables.proofs.fold.Folding.read.Goals.{in-Ok+in_ok-take-in-Ok, in-Err-Fault+in_ok-push-in-Err-Fault}

pub take-requires-clause-room : goal.take-requires-clause-room
take-requires-clause-room c =
    let plan = c.args.plan.now in
    ∥∥₁_map c.requires (λ r. record {
      filters = filter_tests plan;
      rows = kept_records plan.fields plan.query (r.before ++ valid_records_of plan.fields r.seen);
      is_table = subst (λ (fs : List AggregateFunction). IsTableOf (grouping_places plan.fields plan.query) fs c.args.self.now.table (kept_records plan.fields plan.query (r.before ++ valid_records_of plan.fields r.seen))) (sym (bound-functions plan)) r.has_read.table;
      few = (let h = length-kept_behind plan r.before r.seen in omega (arith, h, r.few));
    })

pub overflow_add-self : goal.overflow_add-self
overflow_add-self c = ∥∥₁_elim c.requires (Fits-prop _ _) (λ r. omega (arith, r.has_read.lines, r.few))

-- no more are refused than are read
pub overflow_add-self-in-Err-Fault : goal.overflow_add-self-in-Err-Fault
overflow_add-self-in-Err-Fault c = ∥∥₁_elim c.requires (Fits-prop _ _) (λ r.
    let fewer = length-refused_of c.args.plan.now.fields r.seen in
    omega (arith, fewer, r.has_read.count, r.few))

pub overflow_add-self-2 : goal.overflow_add-self-2
overflow_add-self-2 c =
    let same : c.match-read_line.self.lines ≡ c.args.self.now.lines = elim c.match-read_line.branch [
      | in-Ok+in_ok-take-in-Ok w ↦ ap (λ (f : Folding). f.lines) w.self-is ∙ w.in_ok-take-in-Ok.ensures.lines
      | in-Err-Fault+in_ok-push-in-Err-Fault w ↦ ap (λ (f : Folding). f.lines) w.self-is
    ] in
    ∥∥₁_elim c.requires (Fits-prop _ _) (λ r. omega (arith, same, r.has_read.lines, r.few))

pub returns : goal.returns
returns c = λ before seen h.
    let plan = c.args.plan.now in
    let line = line_bytes c.args.line in
    elim c.match-read_line.branch [
      | in-Ok+in_ok-take-in-Ok w ↦
          subst (λ (f : Folding). HasRead plan before (record { table = f.table; lines = f.lines + 1; refused = f.refused; refusals = f.refusals; marks = f.marks }) (seen ++ line ∷ [])) (sym w.self-is)
          (read-ok plan before c.args.self.now w.take.new.self seen line w.in-Ok.taken
          (ap (λ fs. decode_line fs line) (sym c.schema.ensures.schema) ∙ w.in-Ok.ensures.ok) h
          w.in_ok-take-in-Ok.ensures.table w.in_ok-take-in-Ok.ensures.lines w.in_ok-take-in-Ok.ensures.refused w.in_ok-take-in-Ok.ensures.refusals)
      | in-Err-Fault+in_ok-push-in-Err-Fault w ↦
          read-err plan before c.args.self.now c.match-read_line.self seen line w.in-Err-Fault.fault
          (ap (λ fs. decode_line fs line) (sym c.schema.ensures.schema) ∙ subst (λ (r : LineRefusal). IsRefusal r (decode_line c.schema.result.now line)) w.in-Err-Fault.field-0-is w.in-Err-Fault.ensures.refused) h
          (ap (λ (f : Folding). f.table) w.self-is) (ap (λ (f : Folding). f.lines) w.self-is)
          (ap (λ (f : Folding). f.refused) w.self-is) (ap (λ (f : Folding). f.refusals) w.self-is ∙ w.in_ok-push-in-Err-Fault.ensures)
    ]
