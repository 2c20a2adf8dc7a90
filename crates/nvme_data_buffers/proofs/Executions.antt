-- For the law on executions: a command that was placed with its data moves these.
use Rattle.std.proofs.Common.{
  ◌≡◌,
  ℕ,
  ◌≤◌,
  true,
  false,
  List,
  [],
  ◌∷◌,
  length,
  take,
  refl,
  sym,
  ap,
  subst,
  ◌∙◌,
  arith,
  Some,
  Ok,
}
use Rattle.std.specs.List.{range_with_len}
use Rattle.std.proofs.lemmas.List.FromFn.{length-range_with_len}
use Rattle.std.proofs.lemmas.List.{length-take}
use Rattle.nvme_wire.specs.Submission.{opcode}
use Rattle.nvme_spec.specs.declared.command.Command.{Command}
use Rattle.nvme_spec.specs.declared.command.AdminCommand.{AdminCommand}
use Rattle.nvme_spec.specs.declared.queues.Queues.{Queues}
use Rattle.nvme_spec.specs.AdminCommands as admin
use Rattle.nvme_spec.specs.AdminEffects.{
  AdminExecution,
  admin_execution,
  data_out,
  execution_by,
  performance,
  world_after,
}
use Rattle.nvme_spec.specs.AdminRules.{admin_judgement, data_of as admin_data_of}
use Rattle.nvme_spec.specs.Bytes.{with_bytes}
use Rattle.nvme_spec.specs.Commands as io
use Rattle.nvme_spec.specs.DataRules.{data_addresses, data_in}
use Rattle.nvme_spec.specs.Execution.{Performs, IsPerformed, ExecutesBy}
use Rattle.nvme_spec.specs.IoData.{data_of}
use Rattle.nvme_spec.specs.Transfers.{with_scattered}
use Rattle.nvme_spec.specs.World.{World}
use Rattle.nvme_spec.proofs.Passing.{has-passed}
use Rattle.nvme_data_buffers.specs.Buffers.{start}
use Rattle.nvme_data_buffers.specs.Entries.{moved, placed}
use Rattle.nvme_data_buffers.specs.Laws.{MovesItsData}
use Rattle.nvme_data_buffers.specs.Executions.{ExecutionsMoveOwnData, AdminExecutionsMoveOwnData}
use Rattle.nvme_data_buffers.proofs.OwnData.{commands-move-their-data}
use Rattle.nvme_data_buffers.proofs.Stores.{ready, own-data-stay}

-- what is scattered over addresses, cut where these end
scatter-cut : (w places bytes : List ℕ) → with_scattered w (take (length bytes) places) bytes
    ≡ with_scattered w (take (length (take (length places) bytes)) places) (take (length places) bytes)
unfolding with_scattered
scatter-cut w [] [] = refl
scatter-cut w [] (b ∷ bytes) = refl
scatter-cut w (a ∷ places) [] = refl
scatter-cut w (a ∷ places) (b ∷ bytes) = scatter-cut _ places bytes

moved-is : (p : List ℕ) (command : Command) → io.command_of (opcode p) ≡ Some command
    → moved false p ≡ io.data_length command p
unfolding moved
moved-is p command named = ap (λ c. io.data_length_of c p) named

data-is : (window p : List ℕ) → data_of window p ≡ data_in (moved false p) window p
unfolding moved
data-is window p = refl

length-addresses : (n : ℕ) (w p : List ℕ) (first bytes : ℕ) → data_addresses n w p ≡ range_with_len first bytes
    → length (data_addresses n w p) ≡ bytes
length-addresses n w p first bytes places = ap length places ∙ length-range_with_len first bytes

take-few : (n : ℕ) (xs : List ℕ) → length (take n xs) ≤ n
take-few n xs = let is = length-take n xs in omega (arith, is)

-- what an execution stores is in the buffer
stored-own : (n : ℕ) (w p returned : List ℕ) (first size bytes : ℕ) → MovesItsData w p first size bytes → n ≡ bytes
    → with_scattered w (take (length returned) (data_addresses n w p)) returned
    ≡ with_bytes w first (take bytes returned)
stored-own n w p returned first size bytes moves same =
    let places : data_addresses n w p ≡ range_with_len first bytes =
    ap (λ k. data_addresses k w p) same ∙ moves.places in
    let long = length-addresses n w p first bytes places in
    scatter-cut w (data_addresses n w p) returned
    ∙ ap (λ k. with_scattered w (take (length (take k returned)) (data_addresses n w p)) (take k returned)) long
    ∙ ap (λ k. with_scattered w (take (length (take bytes returned)) (data_addresses k w p)) (take bytes returned)) same
    ∙ moves.scattered (take bytes returned) (take-few bytes returned)

pub executions-move-own-data : ExecutionsMoveOwnData
executions-move-own-data tells cntlid marked old new outcome plan window e sent b stores whole has entry within others
    before allowed executes =
    let p : List ℕ = placed false e b (length sent) in
    let performed : IsPerformed tells plan.kind cntlid p old new outcome =
    subst (λ v. ExecutesBy v tells cntlid p old new outcome) allowed executes in
    let named = (has-passed old.world cntlid p marked old.window plan allowed).named in
    let r = ready window sent (moved false e) b stores whole has within others in
    let moves : MovesItsData old.window p (start b (length sent)) (length sent) (moved false p) =
    subst (λ w. MovesItsData w p (start b (length sent)) (length sent) (moved false p)) (sym before)
    (commands-move-their-data _ e false b (length sent) r.whole r.list entry within) in
    let own : data_of old.window p ≡ take (moved false p) sent = data-is old.window p
    ∙ ap (λ w. data_in (moved false p) w p) before
    ∙ own-data-stay window e sent false b stores whole has entry within others in
    record {
      returned = performed.returned;
      effect = subst (λ some. Performs tells plan.kind cntlid p some old new outcome.status performed.returned) own
          performed.effect;
      window = performed.window ∙ stored-own (io.data_length plan.kind p) old.window p performed.returned
          (start b (length sent)) (length sent) (moved false p) moves (sym (moved-is p plan.kind named));
    }

-- Admin commands.

scatter-all : (w places bytes : List ℕ)
    → with_scattered w places bytes ≡ with_scattered w (take (length bytes) places) bytes
unfolding with_scattered
scatter-all w [] [] = refl
scatter-all w [] (b ∷ bytes) = refl
scatter-all w (a ∷ places) [] = refl
scatter-all w (a ∷ places) (b ∷ bytes) = scatter-all _ places bytes

admin-moved : (p : List ℕ) (command : AdminCommand) → admin.command_of (opcode p) ≡ Some command
    → moved true p ≡ admin.data_length command p
unfolding moved
admin-moved p command named = ap (λ c. admin.data_length_of c p) named

admin-data : (window p : List ℕ) → admin_data_of window p ≡ data_in (moved true p) window p
unfolding moved
admin-data window p = refl

executed : (w : World) (queues : Queues) (cntlid : ℕ) (command : AdminCommand) (p now : List ℕ)
    → admin_judgement w queues cntlid p now ≡ Ok tt → admin.command_of (opcode p) ≡ Some command
    → admin_execution w queues cntlid p now ≡ performance w cntlid now command p
unfolding admin_execution
executed w queues cntlid command p now allowed named =
    ap (λ j. execution_by j (admin.command_of (opcode p)) w cntlid p now) allowed
    ∙ ap (λ c. execution_by (Ok tt) c w cntlid p now) named

pub admin-executions-move-own-data : AdminExecutionsMoveOwnData
admin-executions-move-own-data w queues cntlid command window now e sent b stores whole has entry within others before
    allowed named =
    let p : List ℕ = placed true e b (length sent) in
    let is = executed w queues cntlid command p now allowed named in
    let r = ready window sent (moved true e) b stores whole has within others in
    let moves : MovesItsData now p (start b (length sent)) (length sent) (moved true p) =
    subst (λ x. MovesItsData x p (start b (length sent)) (length sent) (moved true p)) (sym before)
    (commands-move-their-data _ e true b (length sent) r.whole r.list entry within) in
    let own : admin_data_of now p ≡ take (moved true p) sent = admin-data now p
    ∙ ap (λ x. data_in (moved true p) x p) before
    ∙ own-data-stay window e sent true b stores whole has entry within others in
    record {
      world = ap (λ (x : AdminExecution). x.world) is ∙ ap (world_after w command p) own;
      window = ap (λ (x : AdminExecution). x.window) is
          ∙ scatter-all now (data_addresses (admin.data_length command p) now p) (data_out w cntlid command p)
          ∙ stored-own (admin.data_length command p) now p (data_out w cntlid command p) (start b (length sent))
          (length sent) (moved true p) moves (sym (admin-moved p command named));
    }
