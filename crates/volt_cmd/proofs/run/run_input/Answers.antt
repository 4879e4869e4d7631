use Rattle.std.proofs.Common.{◌≡◌, ℕ, ◌<◌, List, length, get_or, sym, subst}
use Rattle.one_host_model.specs.declared.input.WorldCall.{WorldCall}
use Rattle.volt_cmd.proofs.RunLemmas.{of_one_client}
use Rattle.volt_cmd.proofs.run.run_input.Goals as goal

pub boot-requires : goal.boot-requires
boot-requires c =
    subst (λ (xs : List WorldCall). (k : ℕ) (d : WorldCall) → k < length xs → (get_or xs k d).client ≡ 1) (sym c.requires.same) (of_one_client c.requires.calls)
