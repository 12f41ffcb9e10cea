use Rattle.std.proofs.Common.{◌≡◌, ◌∙◌, ◌+◌, Bor, ℕ, List, [], ◌∷◌, ◌++◌, ap, map, subst, sym, take, take_all}
use Rattle.std.specs.List.{AllByRecursion}
use Rattle.std.proofs.lemmas.List.{map-append, map_more}
use Rattle.semantics.specs.ResultRows.{ResultRow}
use Rattle.group_tables.specs.declared.group.Group.{Group}
use Rattle.report_rows.specs.Inside.SortEntries.{IsCodableRow, coded_form, entry_at, entry_form}
use Rattle.report_rows.proofs.InParts.{all-both}
use Rattle.report_rows.proofs.Rows.{row_at}
use Rattle.report_rows.proofs.order.make_entries.Goals as goal

pub loop-found-preserved : goal.loop-found-preserved
loop-found-preserved c =
    let cs = map coded_form c.args.keys.now in
    let rank = entry_at cs in
    let i = c.loop-found.found-index in
    let rows = c.args.rows.now in
    let found = c.found-item.result in
    let more : map row_at (take (i + 1) rows) ≡ map row_at (take i rows) ++ row_at found ∷ [] =
    map_more row_at rows i found c.loop-found-test.true ∙ (λ k. map row_at (take i rows) ++ row_at (sym c.found-item.is k) ∷ []) in
    record {
      entries =
          ap (map entry_form) c.in_ok-push.ensures.items
          ∙ map-append entry_form c.loop-found.entries.items _
          ∙ (λ k. c.loop-found.invariant.entries k ++ ((c.in_ok-key.ensures.key k, row_at found) ∷ []))
          ∙ sym (ap (map rank) more ∙ map-append rank (map row_at (take i rows)) (row_at found ∷ []));
      codable =
          subst (λ (xs : List ResultRow). AllByRecursion (IsCodableRow cs) xs) (sym more)
          (all-both (IsCodableRow cs) (map row_at (take i rows)) (row_at found ∷ []) c.loop-found.invariant.codable (c.in_ok-key.ensures.codable, tt));
    }

pub returns : goal.returns
returns c =
    let cs = map coded_form c.args.keys.now in
    let all = take_all c.loop-found.found-index c.args.rows.now c.loop-found-test.false in
    record {
      entries = c.loop-found.invariant.entries ∙ ap (λ (rows : List (Bor (ℕ × Group))). map (entry_at cs) (map row_at rows)) all;
      codable = subst (λ (rows : List (Bor (ℕ × Group))). AllByRecursion (IsCodableRow cs) (map row_at rows)) all c.loop-found.invariant.codable;
    }
