use Rattle.std.proofs.Common.{◌≡◌, refl, sym, ap, ◌∙◌}
use Rattle.std.specs.Ordering.{nat_cmp}
use Rattle.std.specs.BTreeMap.{is_at}
use Rattle.std.proofs.lemmas.Result.{on_ok_weaker, on_err_weaker}
use Rattle.std.proofs.lemmas.Map.Steps.{set_value_same}
use Rattle.volt_disk.specs.Stored.{stored_at, with_file, changed}
use Rattle.volt_disk.proofs.FileLemmas.{set_value-found}
use Rattle.volt_disk.proofs.files.change.Goals as goal

pub returns-in-Some-clause-ok : goal.returns-in-Some-clause-ok
returns-in-Some-clause-ok c =
    let files = c.args.files.now.entries in
    let found = sym c.in-Some.ensures.value in
    let here : stored_at c.args.number files ≡ c.in-Some.file.now = rw found refl in
    let written = (c.get_mut.follows.holds c.change.new.self).0 in
    on_ok_weaker c.change.result
    (λ is. written ∙ (set_value-found c.args.number files c.change.new.self c.in-Some.file.now c.in-Some.ensures.ordered found
    ∙ ap (λ s. with_file c.args.number s files) (is ∙ sym (ap (changed c.args.is_made c.args.change.now) here))))
    c.change.ensures.ok

pub returns-in-Some-clause-err : goal.returns-in-Some-clause-err
returns-in-Some-clause-err c =
    let files = c.args.files.now.entries in
    let written = (c.get_mut.follows.holds c.change.new.self).0 in
    on_err_weaker c.change.result
    (λ is. written ∙ rw is (set_value_same (is_at (nat_cmp c.args.number)) files c.in-Some.file.now (sym c.in-Some.ensures.value)))
    c.change.ensures.err
