use Rattle.std.proofs.Common.{[], ◌∷◌, ◌++◌, map, flat_map, sym, ap, ◌∙◌}
use Rattle.volt_value.specs.declared.column.Class.TheVariants as class
use Rattle.sql_resolve.specs.Expressions.{common, sort_of, meaning_of, Meaning}
use Rattle.sql_complaints.specs.declared.complaints.Wanted.TheVariants.{Value, Truth}
use Rattle.sql_complaints.specs.Complaints.{all_noted}
use Rattle.sql_complaints.specs.Expressions as spec
use Rattle.sql_complaints.proofs.SearchLemmas.{all_noted_append, each_done, noted_behind}
use Rattle.sql_complaints.proofs.Variants.{inner_Calculate, inner_And, inner_Or, compared_at, between_at, contained_at}
use Rattle.sql_complaints.proofs.expressions.+read.Goals as goal

pub read_all-returns : goal.read_all-returns
read_all-returns t c =
    each_done (spec.complaints c.args.part c.args.names.now (Value c.args.class)) c.loop-item.search c.args.search.now c.args.items.now c.loop-item.item-index c.loop-item-test.false c.loop-item.invariant

pub read_inner-returns-in_ok-read-in-Calculate : goal.read_inner-returns-in_ok-read-in-Calculate
read_inner-returns-in_ok-read-in-Calculate t c =
    let part = c.args.part in
    let names = c.args.names.now in
    noted_behind c.read-in-Calculate-2.result c.args.search.now c.read-in-Calculate.new.search c.read-in-Calculate-2.new.search
    (spec.complaints part names (Value class.Int) c.get-in-Calculate.result.now) (spec.complaints part names (Value class.Int) c.get-in-Calculate-2.result.now) (spec.read part names c.args.e.now).inner
    c.in_ok-read-in-Calculate.ensures c.read-in-Calculate-2.ensures
    (ap (λ e. (spec.read part names e).inner) c.in-Calculate.is ∙ inner_Calculate part names c.in-Calculate.field-0 c.in-Calculate.a c.in-Calculate.b
    ∙ (λ i. spec.complaints part names (Value class.Int) (sym c.get-in-Calculate.ensures i) ++ spec.complaints part names (Value class.Int) (sym c.get-in-Calculate-2.ensures i)))

pub read_inner-returns-in_ok-read-in-And : goal.read_inner-returns-in_ok-read-in-And
read_inner-returns-in_ok-read-in-And t c =
    let part = c.args.part in
    let names = c.args.names.now in
    noted_behind c.read-in-And-2.result c.args.search.now c.read-in-And.new.search c.read-in-And-2.new.search
    (spec.complaints part names Truth c.get-in-And.result.now) (spec.complaints part names Truth c.get-in-And-2.result.now) (spec.read part names c.args.e.now).inner
    c.in_ok-read-in-And.ensures c.read-in-And-2.ensures
    (ap (λ e. (spec.read part names e).inner) c.in-And.is ∙ inner_And part names c.in-And.a c.in-And.b
    ∙ (λ i. spec.complaints part names Truth (sym c.get-in-And.ensures i) ++ spec.complaints part names Truth (sym c.get-in-And-2.ensures i)))

pub read_inner-returns-in_ok-read-in-Or : goal.read_inner-returns-in_ok-read-in-Or
read_inner-returns-in_ok-read-in-Or t c =
    let part = c.args.part in
    let names = c.args.names.now in
    noted_behind c.read-in-Or-2.result c.args.search.now c.read-in-Or.new.search c.read-in-Or-2.new.search
    (spec.complaints part names Truth c.get-in-Or.result.now) (spec.complaints part names Truth c.get-in-Or-2.result.now) (spec.read part names c.args.e.now).inner
    c.in_ok-read-in-Or.ensures c.read-in-Or-2.ensures
    (ap (λ e. (spec.read part names e).inner) c.in-Or.is ∙ inner_Or part names c.in-Or.a c.in-Or.b
    ∙ (λ i. spec.complaints part names Truth (sym c.get-in-Or.ensures i) ++ spec.complaints part names Truth (sym c.get-in-Or-2.ensures i)))

pub read_test-returns-in_ok-read-in-Compare : goal.read_test-returns-in_ok-read-in-Compare
read_test-returns-in_ok-read-in-Compare t c =
    let part = c.args.part in
    let names = c.args.names.now in
    let wanted = Value c.common_of_two.result in
    noted_behind c.read-in-Compare.result c.args.search.now c.read.new.search c.read-in-Compare.new.search
    (spec.complaints part names wanted c.get-in-Compare-2.result.now) (spec.complaints part names wanted c.get-in-Compare-3.result.now) (spec.read part names c.args.e.now).test
    c.in_ok-read-in-Compare.ensures c.read-in-Compare.ensures
    (ap (λ e. (spec.read part names e).test) c.in-Compare.is
    ∙ compared_at part names c.in-Compare.field-0 c.in-Compare.a c.in-Compare.b c.common_of_two.result
    (c.common_of_two.ensures ∙ (λ i. common (sort_of names (c.get.ensures i) ∷ sort_of names (c.get-in-Compare.ensures i) ∷ [])))
    ∙ (λ i. spec.complaints part names wanted (sym c.get-in-Compare-2.ensures i) ++ spec.complaints part names wanted (sym c.get-in-Compare-3.ensures i)))

pub read_test-returns-in_ok-read-in-Between-2 : goal.read_test-returns-in_ok-read-in-Between-2
read_test-returns-in_ok-read-in-Between-2 t c =
    let part = c.args.part in
    let names = c.args.names.now in
    let wanted = Value c.common_of_three-class.result in
    let first = spec.complaints part names wanted c.get-in-Between-4.result.now in
    let second = spec.complaints part names wanted c.get-in-Between-5.result.now in
    noted_behind c.read-in-Between-3.result c.args.search.now c.read-in-Between-2.new.search c.read-in-Between-3.new.search
    (first ++ second) (spec.complaints part names wanted c.get-in-Between-6.result.now) (spec.read part names c.args.e.now).test
    (c.in_ok-read-in-Between-2.ensures ∙ ap (λ s. all_noted s second) c.in_ok-read-in-Between.ensures ∙ all_noted_append c.args.search.now first second) c.read-in-Between-3.ensures
    (ap (λ e. (spec.read part names e).test) c.in-Between.is
    ∙ between_at part names c.in-Between.value c.in-Between.low c.in-Between.high c.in-Between.negated c.common_of_three-class.result
    (c.common_of_three-class.ensures ∙ (λ i. common (sort_of names (c.get-in-Between.ensures i) ∷ sort_of names (c.get-in-Between-2.ensures i) ∷ sort_of names (c.get-in-Between-3.ensures i) ∷ [])))
    ∙ (λ i. spec.complaints part names wanted (sym c.get-in-Between-4.ensures i) ++ spec.complaints part names wanted (sym c.get-in-Between-5.ensures i) ++ spec.complaints part names wanted (sym c.get-in-Between-6.ensures i)))

pub read_test-returns-in_ok-read-in-In : goal.read_test-returns-in_ok-read-in-In
read_test-returns-in_ok-read-in-In t c =
    let part = c.args.part in
    let names = c.args.names.now in
    let wanted = Value c.common_among-class.result in
    noted_behind c.read_all.result c.args.search.now c.read-in-In.new.search c.read_all.new.search
    (spec.complaints part names wanted c.get-in-In-2.result.now) (flat_map (spec.complaints part names wanted) c.as_slice-in-In.result.now) (spec.read part names c.args.e.now).test
    c.in_ok-read-in-In.ensures c.read_all.ensures
    (ap (λ e. (spec.read part names e).test) c.in-In.is
    ∙ contained_at part names c.in-In.value c.in-In.items c.in-In.negated c.common_among-class.result
    (c.common_among-class.ensures ∙ (λ i. common (sort_of names (c.get-in-In.ensures i) ∷ map (λ (m : Meaning). m.sort) (map (meaning_of names) (c.as_slice.ensures i)))))
    ∙ (λ i. spec.complaints part names wanted (sym c.get-in-In-2.ensures i) ++ flat_map (spec.complaints part names wanted) (sym c.as_slice-in-In.ensures i)))
