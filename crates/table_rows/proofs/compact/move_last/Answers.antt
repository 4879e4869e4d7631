use Rattle.std.proofs.Common.{◌<◌, map, sym, ap, subst, ◌∙◌}
use Rattle.row_codec.specs.Packing.{row_of}
use Rattle.table_rows.specs.Held.{CanMove, place_sum}
use Rattle.table_rows.specs.Spread.{Spread}
use Rattle.table_rows.specs.Keyed.{going}
use Rattle.table_rows.specs.Standing.{standing_table, IsStanding, StandFor}
use Rattle.table_rows.proofs.KeyedChanges.{all_unique, same_kept}
use Rattle.table_rows.proofs.ChangeLemmas.{still_stand}
use Rattle.table_rows.proofs.MoveLemmas.{moved_stands, moved_shrinks}
use Rattle.table_rows.proofs.compact.move_last.Goals as goal

pub returns-in_err-go-clause-same : goal.returns-in_err-go-clause-same
returns-in_err-go-clause-same c = still_stand c.args.slots.now c.next_move.new.self c.args.indexes.now c.go.new.indexes c.requires.standing c.next_move.ensures.kept c.go.ensures.kept

pub returns-in_err-shift-clause-same : goal.returns-in_err-shift-clause-same
returns-in_err-shift-clause-same c =
    still_stand c.args.slots.now c.shift.new.self c.args.indexes.now c.go.new.indexes c.requires.standing (c.in_err-shift.ensures.kept ∙ c.next_move.ensures.kept) c.go.ensures.kept

pub relocate-requires : goal.relocate-requires
relocate-requires c = all_unique c.args.slots.now.held c.go.new.indexes (same_kept c.args.slots.now.held c.go.new.indexes c.args.indexes.now c.go.ensures.kept c.requires.standing.kept)

pub returns-clause-same : goal.returns-clause-same
returns-clause-same c =
    let s = c.next_move.new.self in
    let whole = c.next_move.ensures.kept in
    let all = c.args.indexes.now in
    let told = c.in_ok-go.ensures.told ∙ ap (λ fields. map (going (row_of fields c.tuple.result.now)) all) c.layout.ensures.fields in
    subst (λ (t : Spread). StandFor c.shift.new.self c.relocate.new.indexes (standing_table t all)) whole
    (moved_stands s c.shift.new.self all c.go.new.indexes c.relocate.new.indexes c.in-Some.from c.in-Some.to (row_of s.fields c.tuple.result.now) c.layout.ensures.rules
    (subst (λ (t : Spread). IsStanding t all) (sym whole) c.requires.standing) (subst (λ (t : Spread). CanMove t.held c.in-Some.from c.in-Some.to) (sym whole) c.in-Some.ensures.found)
    c.tuple.ensures.row told c.in_ok-shift.ensures.moved c.relocate.ensures)

pub returns-clause-shrinks : goal.returns-clause-shrinks
returns-clause-shrinks c = λ done.
    let s = c.next_move.new.self in
    let whole = c.next_move.ensures.kept in
    subst (λ (t : Spread). place_sum c.shift.new.self.held < place_sum t.held) whole
    (moved_shrinks s c.shift.new.self c.in-Some.from c.in-Some.to (row_of s.fields c.tuple.result.now) c.layout.ensures.rules
    (subst (λ (t : Spread). CanMove t.held c.in-Some.from c.in-Some.to) (sym whole) c.in-Some.ensures.found) c.tuple.ensures.row c.in_ok-shift.ensures.moved)
