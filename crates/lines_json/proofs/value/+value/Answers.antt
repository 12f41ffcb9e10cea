use Rattle.std.proofs.Common.{◌≡◌, get_or, refl, sym, ap, ◌∙◌, arith}
use Rattle.std.proofs.lemmas.Option.{IfSome_then}
use Rattle.json.specs.Lex.{begins_colon, fresh, after_comma, after_value}
use Rattle.lines_json.proofs.Lexemes.{lexemes-operator}
use Rattle.lines_json.proofs.Nested.{items-begin, items-close, items-comma, items-item, members-begin, members-close, members-comma, members-member, value-array, value-boolean, value-null, value-number, value-object, value-string}
use Rattle.lines_json.proofs.value.+value.Goals as goal

-- ---- arrays

pub array_end-returns-then-byte_at-eq93 : goal.array_end-returns-then-byte_at-eq93
array_end-returns-then-byte_at-eq93 t c =
    let text = c.args.text.now in
    let at = c.space_end-at in
    items-close text c.args.depth c.args.from fresh at.result (items-begin text c.args.depth c.args.from at.result at.ensures.later at.ensures.within at.ensures.same) refl (omega (arith, c.byte_at.ensures))

pub array_end-items-init : goal.array_end-items-init
array_end-items-init t c =
    let at = c.space_end-at in
    record {
      place = fresh;
      may = refl;
      among = items-begin c.args.text.now c.args.depth c.args.from at.result at.ensures.later at.ensures.within at.ensures.same;
    }

pub array_end-returns-in-93 : goal.array_end-returns-in-93
array_end-returns-in-93 t c =
    let text = c.args.text.now in
    let loop = c.items.invariant in
    let behind = c.space_end-behind in
    let bracket : get_or text behind.result 32 ≡ 93 = sym c.byte_at-in-items.ensures ∙ c.in-93.is in
    let among = items-item text c.args.depth c.args.from loop.place c.items.at c.in_ok-stop.stop behind.result loop.among loop.may c.in_ok-stop.ensures behind.ensures.later behind.ensures.within behind.ensures.same
    (ap begins_colon (lexemes-operator text behind.result 93 refl refl bracket)) in
    items-close text c.args.depth c.args.from after_value behind.result among refl bracket

pub array_end-items-preserved : goal.array_end-items-preserved
array_end-items-preserved t c =
    let text = c.args.text.now in
    let loop = c.items.invariant in
    let behind = c.space_end-behind in
    let next = c.space_end-at-in-44 in
    let comma : get_or text behind.result 32 ≡ 44 = sym c.byte_at-in-items.ensures ∙ c.in-44.is in
    let among = items-item text c.args.depth c.args.from loop.place c.items.at c.in_ok-stop.stop behind.result loop.among loop.may c.in_ok-stop.ensures behind.ensures.later behind.ensures.within behind.ensures.same
    (ap begins_colon (lexemes-operator text behind.result 44 refl refl comma)) in
    record {
      place = after_comma;
      may = refl;
      among = items-comma text c.args.depth c.args.from behind.result next.result among comma next.ensures.later next.ensures.within next.ensures.same;
    }

-- ---- objects

pub object_end-returns-then-byte_at-eq125 : goal.object_end-returns-then-byte_at-eq125
object_end-returns-then-byte_at-eq125 t c =
    let text = c.args.text.now in
    let at = c.space_end-at in
    members-close text c.args.depth c.args.from fresh at.result (members-begin text c.args.depth c.args.from at.result at.ensures.later at.ensures.within at.ensures.same) refl (omega (arith, c.byte_at.ensures))

pub object_end-members-init : goal.object_end-members-init
object_end-members-init t c =
    let at = c.space_end-at in
    record {
      place = fresh;
      may = refl;
      among = members-begin c.args.text.now c.args.depth c.args.from at.result at.ensures.later at.ensures.within at.ensures.same;
    }

pub object_end-returns-in-125 : goal.object_end-returns-in-125
object_end-returns-in-125 t c =
    let text = c.args.text.now in
    let loop = c.members.invariant in
    let behind = c.space_end-behind in
    let brace : get_or text behind.result 32 ≡ 125 = sym c.byte_at-in-members.ensures ∙ c.in-125.is in
    let among = members-member text c.args.depth c.args.from loop.place c.members.at c.in_ok-start.start c.in_ok-stop.stop behind.result loop.among loop.may c.in_ok-start.ensures c.in_ok-stop.ensures
    behind.ensures.later behind.ensures.within behind.ensures.same (ap begins_colon (lexemes-operator text behind.result 125 refl refl brace)) in
    members-close text c.args.depth c.args.from after_value behind.result among refl brace

pub object_end-members-preserved : goal.object_end-members-preserved
object_end-members-preserved t c =
    let text = c.args.text.now in
    let loop = c.members.invariant in
    let behind = c.space_end-behind in
    let next = c.space_end-at-in-44 in
    let comma : get_or text behind.result 32 ≡ 44 = sym c.byte_at-in-members.ensures ∙ c.in-44.is in
    let among = members-member text c.args.depth c.args.from loop.place c.members.at c.in_ok-start.start c.in_ok-stop.stop behind.result loop.among loop.may c.in_ok-start.ensures c.in_ok-stop.ensures
    behind.ensures.later behind.ensures.within behind.ensures.same (ap begins_colon (lexemes-operator text behind.result 44 refl refl comma)) in
    record {
      place = after_comma;
      may = refl;
      among = members-comma text c.args.depth c.args.from behind.result next.result among comma next.ensures.later next.ensures.within next.ensures.same;
    }

-- ---- values

pub value_end-returns-in_ok-string_end-in-34 : goal.value_end-returns-in_ok-string_end-in-34
value_end-returns-in_ok-string_end-in-34 t c =
    let found = c.in_ok-string_end-in-34.ensures in
    value-string c.args.text.now c.args.depth c.args.at c.in_ok-string_end-in-34.field-0 (found.0) (sym c.byte_at.ensures ∙ c.in-34.is) (found.1)

pub value_end-returns-in-123 : goal.value_end-returns-in-123
value_end-returns-in-123 t c =
    IfSome_then c.object_end.result c.object_end.ensures (λ stop a. value-object c.args.text.now c.args.depth c.args.at stop (sym c.byte_at.ensures ∙ c.in-123.is) c.if-depth-gt0.true a)

pub value_end-returns-in-91 : goal.value_end-returns-in-91
value_end-returns-in-91 t c =
    IfSome_then c.array_end.result c.array_end.ensures (λ stop a. value-array c.args.text.now c.args.depth c.args.at stop (sym c.byte_at.ensures ∙ c.in-91.is) c.if-depth-gt0-2.true a)

pub value_end-returns-in_ok-bool_at-in-116 : goal.value_end-returns-in_ok-bool_at-in-116
value_end-returns-in_ok-bool_at-in-116 t c =
    let found = c.in_ok-bool_at-in-116.field-0 in
    value-boolean c.args.text.now c.args.depth c.args.at (found.1) (found.0) c.in_ok-bool_at-in-116.ensures.stands

pub value_end-returns-in-110 : goal.value_end-returns-in-110
value_end-returns-in-110 t c = IfSome_then c.null_end.result c.null_end.ensures.stands (λ stop n. value-null c.args.text.now c.args.depth c.args.at stop n)

pub value_end-returns-in_default : goal.value_end-returns-in_default
value_end-returns-in_default t c = IfSome_then c.number_end.result c.number_end.ensures (λ stop n. value-number c.args.text.now c.args.depth c.args.at stop (n.0) (n.1) (n.2))
