-- What an example of evaluation unfolds.
use Rattle.std.specs.Prelude.{ℕ, zero}
use Rattle.dg_lex.specs.Lexemes as lexemes
use Rattle.dg_value.specs.declared.value.Kept.TheBlock as value_block
use Rattle.dg_value.specs.declared.value.Value.{out-Value}
use Rattle.dg_value.specs.declared.value.Kept.{out-Kept}
use Rattle.dg_value.specs.Places.{same_place}
use Rattle.dg_value.specs.Same.{same_element}
use Rattle.dg_slots.specs.Sessions.{instance_before, inst_of, insts_of, ask_of, asks_of}
use Rattle.dg_slots.specs.Links.{linked, links_of_line, links_of}
use Rattle.dg_slots.specs.Numbered.{class_number, field_number, numbered, numbered_cond, numbered_tree}
use Rattle.dg_eval.specs.World.{chain_of_inst, up, link, constant, bound_value}
use Rattle.dg_eval.specs.Bodies.{expr_part, cond_part, tree_part}
use Rattle.dg_eval.specs.Meaning.{is_cell, eval, content_of, lazy_content_of}
use Rattle.dg_eval.specs.Asks.{run_of_ask, answer_to, asked_by, used, cells_of, cells}
use Rattle.dg_eval.specs.Report.{value_text, reply_line, report}
use Rattle.dg_examples.specs.Outcomes.{replies}
use Rattle.dg_decl.proofs.JudgeWords.{judges}

-- what an example of evaluation unfolds: a proof that unfolds this unfolds them all
unfoldable pub evaluates : ℕ
unfolding judges lexemes.quoted out-Value out-Kept value_block.shown-the_row-Value-0
    value_block.shown-the_row-Value-4 value_block.shown-the_row-Value-Object-2-1-1
    value_block.shown-the_row-Value-Map-0-2-2 value_block.shown-the_row-Value-Map-0-3-3
    value_block.shown-the_row-Kept-5 same_place same_element instance_before inst_of insts_of
    ask_of asks_of linked
    links_of_line links_of class_number field_number numbered numbered_cond numbered_tree
    chain_of_inst up link constant bound_value expr_part cond_part tree_part is_cell eval
    content_of lazy_content_of run_of_ask answer_to asked_by used cells_of cells value_text
    reply_line report replies
evaluates = zero
