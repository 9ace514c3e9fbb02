use Rattle.pg_moves.proofs.LeafLemmas.{exact_found, exact_last}
use Rattle.pg_moves.proofs.search.first_of_exact.Goals as goal

pub returns-in-Some : goal.returns-in-Some
returns-in-Some c = exact_found c.args.position.now c.args.from c.args.set c.requires c.args.target.to c.args.target.number c.next_square.result
    c.args.target.few c.next_square.ensures.before c.next_square.ensures.after c.in-Some.square c.in-Some.ensures

pub returns-in-None : goal.returns-in-None
returns-in-None c = exact_last c.args.position.now c.args.from c.args.set c.requires c.args.target.to c.args.target.number c.next_square.result
    c.args.target.few c.next_square.ensures.before c.next_square.ensures.after c.in-None.ensures
