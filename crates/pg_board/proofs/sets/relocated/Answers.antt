use Rattle.pg_board.proofs.MovedSets.{moved_sound, moved_men}
use Rattle.pg_board.proofs.sets.relocated.Goals as goal

pub returns-clause-sound : goal.returns-clause-sound
returns-clause-sound c = moved_sound _ c.args.sets.now c.args.from c.args.to c.requires.from c.requires.sound
    (record {
      pawns = c.shifted.ensures.bits;
      knights = c.shifted-2.ensures.bits;
      bishops = c.shifted-3.ensures.bits;
      rooks = c.shifted-4.ensures.bits;
      queens = c.shifted-5.ensures.bits;
      kings = c.shifted-6.ensures.bits;
      white = c.shifted-7.ensures.bits;
      black = c.shifted-8.ensures.bits;
    })
    (record {
      pawns = c.shifted.ensures.fits;
      knights = c.shifted-2.ensures.fits;
      bishops = c.shifted-3.ensures.fits;
      rooks = c.shifted-4.ensures.fits;
      queens = c.shifted-5.ensures.fits;
      kings = c.shifted-6.ensures.fits;
      white = c.shifted-7.ensures.fits;
      black = c.shifted-8.ensures.fits;
    })

pub returns-clause-men : goal.returns-clause-men
returns-clause-men c = moved_men _ c.args.sets.now c.args.from c.args.to c.requires.from c.requires.sound
    (record {
      pawns = c.shifted.ensures.bits;
      knights = c.shifted-2.ensures.bits;
      bishops = c.shifted-3.ensures.bits;
      rooks = c.shifted-4.ensures.bits;
      queens = c.shifted-5.ensures.bits;
      kings = c.shifted-6.ensures.bits;
      white = c.shifted-7.ensures.bits;
      black = c.shifted-8.ensures.bits;
    })
