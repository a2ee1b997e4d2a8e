use Rattle.dg_eval.proofs.InputLemmas.{inputs_are_look_ups, inputs_lead_to_slots, no_input_is_left_out}
use Rattle.dg_eval.proofs.laws.inputs_lead_to_slots.Goals as goal

pub returns : goal.returns
returns c = record {
  exact = inputs_lead_to_slots;
  look_ups = inputs_are_look_ups;
  all = no_input_is_left_out;
}
