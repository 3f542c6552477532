-- The five rounds of each line: function, constant, the order in which the sixteen words of a block
-- are read, and the rotations.
use Rattle.std.specs.Prelude.{List, [], ◌∷◌}
use Rattle.digest_ripemd.specs.declared.rounds.Round.{Round}
use Rattle.digest_ripemd.specs.declared.rounds.Function.TheVariants.{F1, F2, F3, F4, F5}

abbrev pub left_line : List Round
left_line =
    record {
      function = F1;
      constant = 0x00000000;
      order = 0 ∷ 1 ∷ 2 ∷ 3 ∷ 4 ∷ 5 ∷ 6 ∷ 7 ∷ 8 ∷ 9 ∷ 10 ∷ 11 ∷ 12 ∷ 13 ∷ 14 ∷ 15 ∷ [];
      rotations = 11 ∷ 14 ∷ 15 ∷ 12 ∷ 5 ∷ 8 ∷ 7 ∷ 9 ∷ 11 ∷ 13 ∷ 14 ∷ 15 ∷ 6 ∷ 7 ∷ 9 ∷ 8 ∷ [];
    }
    ∷ record {
      function = F2;
      constant = 0x5A827999;
      order = 7 ∷ 4 ∷ 13 ∷ 1 ∷ 10 ∷ 6 ∷ 15 ∷ 3 ∷ 12 ∷ 0 ∷ 9 ∷ 5 ∷ 2 ∷ 14 ∷ 11 ∷ 8 ∷ [];
      rotations = 7 ∷ 6 ∷ 8 ∷ 13 ∷ 11 ∷ 9 ∷ 7 ∷ 15 ∷ 7 ∷ 12 ∷ 15 ∷ 9 ∷ 11 ∷ 7 ∷ 13 ∷ 12 ∷ [];
    }
    ∷ record {
      function = F3;
      constant = 0x6ED9EBA1;
      order = 3 ∷ 10 ∷ 14 ∷ 4 ∷ 9 ∷ 15 ∷ 8 ∷ 1 ∷ 2 ∷ 7 ∷ 0 ∷ 6 ∷ 13 ∷ 11 ∷ 5 ∷ 12 ∷ [];
      rotations = 11 ∷ 13 ∷ 6 ∷ 7 ∷ 14 ∷ 9 ∷ 13 ∷ 15 ∷ 14 ∷ 8 ∷ 13 ∷ 6 ∷ 5 ∷ 12 ∷ 7 ∷ 5 ∷ [];
    }
    ∷ record {
      function = F4;
      constant = 0x8F1BBCDC;
      order = 1 ∷ 9 ∷ 11 ∷ 10 ∷ 0 ∷ 8 ∷ 12 ∷ 4 ∷ 13 ∷ 3 ∷ 7 ∷ 15 ∷ 14 ∷ 5 ∷ 6 ∷ 2 ∷ [];
      rotations = 11 ∷ 12 ∷ 14 ∷ 15 ∷ 14 ∷ 15 ∷ 9 ∷ 8 ∷ 9 ∷ 14 ∷ 5 ∷ 6 ∷ 8 ∷ 6 ∷ 5 ∷ 12 ∷ [];
    }
    ∷ record {
      function = F5;
      constant = 0xA953FD4E;
      order = 4 ∷ 0 ∷ 5 ∷ 9 ∷ 7 ∷ 12 ∷ 2 ∷ 10 ∷ 14 ∷ 1 ∷ 3 ∷ 8 ∷ 11 ∷ 6 ∷ 15 ∷ 13 ∷ [];
      rotations = 9 ∷ 15 ∷ 5 ∷ 11 ∷ 6 ∷ 8 ∷ 13 ∷ 12 ∷ 5 ∷ 12 ∷ 13 ∷ 14 ∷ 11 ∷ 8 ∷ 5 ∷ 6 ∷ [];
    }
    ∷ []

abbrev pub right_line : List Round
right_line =
    record {
      function = F5;
      constant = 0x50A28BE6;
      order = 5 ∷ 14 ∷ 7 ∷ 0 ∷ 9 ∷ 2 ∷ 11 ∷ 4 ∷ 13 ∷ 6 ∷ 15 ∷ 8 ∷ 1 ∷ 10 ∷ 3 ∷ 12 ∷ [];
      rotations = 8 ∷ 9 ∷ 9 ∷ 11 ∷ 13 ∷ 15 ∷ 15 ∷ 5 ∷ 7 ∷ 7 ∷ 8 ∷ 11 ∷ 14 ∷ 14 ∷ 12 ∷ 6 ∷ [];
    }
    ∷ record {
      function = F4;
      constant = 0x5C4DD124;
      order = 6 ∷ 11 ∷ 3 ∷ 7 ∷ 0 ∷ 13 ∷ 5 ∷ 10 ∷ 14 ∷ 15 ∷ 8 ∷ 12 ∷ 4 ∷ 9 ∷ 1 ∷ 2 ∷ [];
      rotations = 9 ∷ 13 ∷ 15 ∷ 7 ∷ 12 ∷ 8 ∷ 9 ∷ 11 ∷ 7 ∷ 7 ∷ 12 ∷ 7 ∷ 6 ∷ 15 ∷ 13 ∷ 11 ∷ [];
    }
    ∷ record {
      function = F3;
      constant = 0x6D703EF3;
      order = 15 ∷ 5 ∷ 1 ∷ 3 ∷ 7 ∷ 14 ∷ 6 ∷ 9 ∷ 11 ∷ 8 ∷ 12 ∷ 2 ∷ 10 ∷ 0 ∷ 4 ∷ 13 ∷ [];
      rotations = 9 ∷ 7 ∷ 15 ∷ 11 ∷ 8 ∷ 6 ∷ 6 ∷ 14 ∷ 12 ∷ 13 ∷ 5 ∷ 14 ∷ 13 ∷ 13 ∷ 7 ∷ 5 ∷ [];
    }
    ∷ record {
      function = F2;
      constant = 0x7A6D76E9;
      order = 8 ∷ 6 ∷ 4 ∷ 1 ∷ 3 ∷ 11 ∷ 15 ∷ 0 ∷ 5 ∷ 12 ∷ 2 ∷ 13 ∷ 9 ∷ 7 ∷ 10 ∷ 14 ∷ [];
      rotations = 15 ∷ 5 ∷ 8 ∷ 11 ∷ 14 ∷ 14 ∷ 6 ∷ 14 ∷ 6 ∷ 9 ∷ 12 ∷ 9 ∷ 12 ∷ 5 ∷ 15 ∷ 8 ∷ [];
    }
    ∷ record {
      function = F1;
      constant = 0x00000000;
      order = 12 ∷ 15 ∷ 10 ∷ 4 ∷ 1 ∷ 5 ∷ 8 ∷ 7 ∷ 6 ∷ 2 ∷ 13 ∷ 14 ∷ 0 ∷ 3 ∷ 9 ∷ 11 ∷ [];
      rotations = 8 ∷ 5 ∷ 12 ∷ 9 ∷ 12 ∷ 5 ∷ 14 ∷ 6 ∷ 8 ∷ 13 ∷ 6 ∷ 5 ∷ 15 ∷ 13 ∷ 11 ∷ 11 ∷ [];
    }
    ∷ []
