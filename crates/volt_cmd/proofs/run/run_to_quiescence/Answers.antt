use Rattle.std.proofs.Common.{sym, ◌∙◌, arith}
use Rattle.one_host_model.specs.Runs.{run}
use Rattle.account_engine.specs.Accounts.{accounts_semantics}
use Rattle.volt_cmd.specs.Script.{start}
use Rattle.volt_cmd.proofs.RunLemmas.{reached_start, alone, reached_next, ended, short, first_may}
use Rattle.volt_cmd.proofs.run.run_to_quiescence.Invariants.{same_state}
use Rattle.volt_cmd.proofs.run.run_to_quiescence.Goals as goal

pub loop-init : goal.loop-init
loop-init c = λ calls h. reached_start same_state calls c.args.world.now h

pub step-requires : goal.step-requires
step-requires c =
    let calls = c.requires.calls in
    let r = (c.loop.invariant calls c.requires.stands).0 in
    let w = run accounts_semantics r.events (start calls) in
    alone same_state calls c.loop.world r c.in-Some.event
    (first_may w c.in-Some.event (sym (c.first.ensures w r.stands (alone same_state calls c.loop.world r)) ∙ c.in-Some.is))

pub loop-preserved : goal.loop-preserved
loop-preserved c = λ calls h.
    let i = c.loop.invariant calls h in
    let w = run accounts_semantics i.0.events (start calls) in
    reached_next same_state calls c.loop.world c.step.new.self c.in-Some.event i.0 c.loop.counter i.1
    (sym (c.first.ensures w i.0.stands (alone same_state calls c.loop.world i.0)) ∙ c.in-Some.is)
    (c.in_ok-step.ensures w i.0.stands)

pub returns-in_default : goal.returns-in_default
returns-in_default c = λ calls h.
    let r = (c.loop.invariant calls h).0 in
    let w = run accounts_semantics r.events (start calls) in
    ended same_state calls c.loop.world r (sym (c.first.ensures w r.stands (alone same_state calls c.loop.world r)) ∙ c.in_default.is)

pub unreachable-requires : goal.unreachable-requires
unreachable-requires c =
    let i = c.loop.invariant c.requires.calls c.requires.stands in
    let few = short same_state c.requires.calls c.loop.world i.0 in
    omega (arith, few, i.1, c.requires.few)
