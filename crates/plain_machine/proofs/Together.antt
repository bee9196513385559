-- The worked examples of two actors' writing and reading, statement by statement.
use Rattle.std.specs.Prelude.{refl, [], ◌∷◌}
use Rattle.plain_machine.specs.Examples.{flattened, late_clock, overlap, refreshed, tie, tie_turned}
use Rattle.plain_machine.specs.Saying.{IsSaid, two_actors}
use Rattle.plain_machine.proofs.Pieces.{late_piece, one_piece, own_pieces, three_pieces}

pub overlap_said : IsSaid two_actors (10 ∷ 11 ∷ []) overlap
overlap_said = (
  _,
  (
    _,
    (_, _, refl, refl, refl, (_, refl, (refl, refl))),
    (
      _,
      (_, _, refl, refl, refl, (_, refl, (refl, refl))),
      (
        _,
        (_, _, refl, refl, refl, (_, _, refl, refl, (_, _, (refl, refl), (refl, refl)))),
        (
          _,
          (_, _, refl, refl, refl, (_, _, refl, refl, (_, _, (refl, refl), (refl, refl)))),
          (
            _,
            (_, _, refl, refl, refl, (_, _, refl, refl, (refl, refl))),
            (
              _,
              (_, _, refl, refl, refl, (_, _, refl, refl, (refl, refl))),
              (
                _,
                (_, _, refl, refl, refl, (_, refl, (refl, refl))),
                (
                  _,
                  (_, _, refl, refl, refl, (refl, refl)),
                  (
                    _,
                    (_, _, refl, refl, refl, (_, three_pieces, refl, refl)),
                    refl,
                  ),
                ),
              ),
            ),
          ),
        ),
      ),
    ),
  ),
)

pub tie_said : IsSaid two_actors (10 ∷ 10 ∷ []) tie
tie_said = (
  _,
  (
    _,
    (_, _, refl, refl, refl, (_, refl, (refl, refl))),
    (
      _,
      (_, _, refl, refl, refl, (_, refl, (refl, refl))),
      (
        _,
        (_, _, refl, refl, refl, (_, _, refl, refl, (_, _, (refl, refl), (refl, refl)))),
        (
          _,
          (_, _, refl, refl, refl, (_, _, refl, refl, (_, _, (refl, refl), (refl, refl)))),
          (
            _,
            (_, _, refl, refl, refl, (_, _, refl, refl, (refl, refl))),
            (
              _,
              (_, _, refl, refl, refl, (_, _, refl, refl, (refl, refl))),
              (
                _,
                (_, _, refl, refl, refl, (_, refl, (refl, refl))),
                (
                  _,
                  (_, _, refl, refl, refl, (refl, refl)),
                  refl,
                ),
              ),
            ),
          ),
        ),
      ),
    ),
  ),
)

pub tie_turned_said : IsSaid two_actors (10 ∷ 10 ∷ []) tie_turned
tie_turned_said = (
  _,
  (
    _,
    (_, _, refl, refl, refl, (_, refl, (refl, refl))),
    (
      _,
      (_, _, refl, refl, refl, (_, refl, (refl, refl))),
      (
        _,
        (_, _, refl, refl, refl, (_, _, refl, refl, (_, _, (refl, refl), (refl, refl)))),
        (
          _,
          (_, _, refl, refl, refl, (_, _, refl, refl, (_, _, (refl, refl), (refl, refl)))),
          (
            _,
            (_, _, refl, refl, refl, (_, _, refl, refl, (refl, refl))),
            (
              _,
              (_, _, refl, refl, refl, (_, _, refl, refl, (refl, refl))),
              (
                _,
                (_, _, refl, refl, refl, (_, refl, (refl, refl))),
                (
                  _,
                  (_, _, refl, refl, refl, (refl, refl)),
                  refl,
                ),
              ),
            ),
          ),
        ),
      ),
    ),
  ),
)

pub late_clock_said : IsSaid two_actors (20 ∷ 10 ∷ []) late_clock
late_clock_said = (
  _,
  (
    _,
    (_, _, refl, refl, refl, (_, refl, (refl, refl))),
    (
      _,
      (_, _, refl, refl, refl, (_, refl, (refl, refl))),
      (
        _,
        (_, _, refl, refl, refl, (_, _, refl, refl, (_, _, (refl, refl), (refl, refl)))),
        (
          _,
          (_, _, refl, refl, refl, (_, _, refl, refl, (_, _, (refl, refl), (refl, refl)))),
          (
            _,
            (_, _, refl, refl, refl, (_, _, refl, refl, (refl, refl))),
            (
              _,
              (_, _, refl, refl, refl, (_, _, refl, refl, (refl, refl))),
              (
                _,
                (_, _, refl, refl, refl, (_, refl, (refl, refl))),
                (
                  _,
                  (_, _, refl, refl, refl, (refl, refl)),
                  (
                    _,
                    (_, _, refl, refl, refl, (_, late_piece, refl, refl)),
                    refl,
                  ),
                ),
              ),
            ),
          ),
        ),
      ),
    ),
  ),
)

pub flattened_said : IsSaid two_actors (10 ∷ []) flattened
flattened_said = (
  _,
  (
    _,
    (_, _, refl, refl, refl, (_, refl, (refl, refl))),
    (
      _,
      (_, _, refl, refl, refl, (_, _, refl, refl, (_, _, (refl, refl), (refl, refl)))),
      (
        _,
        (_, _, refl, refl, refl, (_, _, refl, refl, (refl, refl))),
        (
          _,
          (_, _, refl, refl, refl, (_, refl, (_, one_piece, refl, refl))),
          (
            _,
            (_, _, refl, refl, refl, (_, _, refl, refl, (_, _, (refl, refl), (refl, refl)))),
            (
              _,
              (_, _, refl, refl, refl, (_, _, refl, refl, (refl, refl))),
              (
                _,
                (_, _, refl, refl, refl, (_, refl, (refl, refl))),
                (
                  _,
                  (_, _, refl, refl, refl, (refl, refl)),
                  (
                    _,
                    (_, _, refl, refl, refl, (_, own_pieces, refl, refl)),
                    refl,
                  ),
                ),
              ),
            ),
          ),
        ),
      ),
    ),
  ),
)

pub refreshed_said : IsSaid two_actors (10 ∷ []) refreshed
refreshed_said = (
  _,
  (
    _,
    (_, _, refl, refl, refl, (_, refl, (refl, refl))),
    (
      _,
      (_, _, refl, refl, refl, (_, _, refl, refl, (_, _, (refl, refl), (refl, refl)))),
      (
        _,
        (_, _, refl, refl, refl, (_, _, refl, refl, (refl, refl))),
        (
          _,
          (_, _, refl, refl, refl, (_, refl, (refl, refl))),
          (
            _,
            (_, _, refl, refl, refl, (_, _, refl, refl, (_, _, (refl, refl), (refl, refl)))),
            (
              _,
              (_, _, refl, refl, refl, (_, _, refl, refl, (refl, refl))),
              (
                _,
                (_, _, refl, refl, refl, (refl, refl)),
                (
                  _,
                  (_, _, refl, refl, refl, (_, refl, (refl, refl))),
                  (
                    _,
                    (_, _, refl, refl, refl, (refl, refl)),
                    (
                      _,
                      (_, _, refl, refl, refl, (refl, refl)),
                      refl,
                    ),
                  ),
                ),
              ),
            ),
          ),
        ),
      ),
    ),
  ),
)
